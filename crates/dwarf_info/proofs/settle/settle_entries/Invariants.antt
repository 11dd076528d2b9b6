use Rattle.std.proofs.Common.{◌≡◌, ◌++◌, map}
use Rattle.std.specs.Prelude.{take, drop}
use Rattle.dwarf_info.specs.inner.Settling.{placed, meets, entry_by}
use Rattle.dwarf_info.proofs.settle.settle_entries.Given as goal

abbrev pub invariant-loop-entry : goal.invariant-loop-entry
invariant-loop-entry l = record {
  so_far : l.entries ≡ take l.entry-index (map (entry_by (meets (placed l.places))) l.initial.entries) ++ drop l.entry-index l.initial.entries;
}
