use Rattle.std.proofs.Common.{◌≡◌, ℕ, ◌≤◌, ◌-◌, List, length, take}
use Rattle.std.specs.Prelude.{bytes_eq, is_some}
use Rattle.std.specs.List.{list_any}
use Rattle.std.specs.BTreeMap as tree
use Rattle.std.specs.Cmp.Lexicographic.{slice_cmp}
use Rattle.std.specs.Ordering.{nat_cmp}
use Rattle.wasm_syntax.specs.Valid.{ExportFine}
use Rattle.wasm_validate.specs.inner.Places.{FineUpTo}
use Rattle.wasm_validate.proofs.exports.bad_export.Given as goal

abbrev pub invariant-loop-i : goal.invariant-loop-i
invariant-loop-i l = record {
  within : l.i ≤ length l.m.exports;
  fine : FineUpTo l.m.exports (ExportFine l.m) l.i;
  seen : (q : List ℕ) → is_some (tree.get_by (λ k. slice_cmp nat_cmp q k.now) l.names) ≡ list_any (λ e. bytes_eq q e.name) (take l.i l.m.exports);
}

abbrev pub decreases-loop-i : goal.decreases-loop-i
decreases-loop-i l = length l.m.exports - l.i
