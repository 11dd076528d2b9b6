use Rattle.std.proofs.Common.{◌≡◌, ◌++◌, map}
use Rattle.std.specs.Prelude.{take, drop}
use Rattle.dwarf_info.specs.inner.Settling.{placed, meets, settled_by}
use Rattle.dwarf_info.proofs.attributes.settle_values.Given as goal

abbrev pub invariant-loop-value : goal.invariant-loop-value
invariant-loop-value l = record {
  so_far : l.values ≡ take l.value-index (map (settled_by (meets (placed l.places))) l.initial.values) ++ drop l.value-index l.initial.values;
}
