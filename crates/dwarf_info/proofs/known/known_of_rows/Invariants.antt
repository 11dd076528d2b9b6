use Rattle.std.proofs.Common.{◌≤◌, ℕ, List, length}
use Rattle.std.specs.Ordering.{nat_cmp}
use Rattle.std.specs.BTreeMap.{get}
use Rattle.dwarf_info.specs.calls.Pairs.{Pair, Knows}
use Rattle.dwarf_info.proofs.known.known_of_rows.Given as goal

abbrev pub invariant-marks : goal.invariant-marks
invariant-marks l = record {
  knows : (pair : Pair) (section : List ℕ) → Knows pair section l.growing.lists (get nat_cmp l.growing.known) → Knows pair section l.growing.lists (get nat_cmp l.known);
  inside : l.left ≤ length l.marks;
}

abbrev pub decreases-marks : goal.decreases-marks
decreases-marks l = l.left
