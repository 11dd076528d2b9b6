use Rattle.std.proofs.Common.{◌≤◌, length}
use Rattle.std.specs.Ordering.{nat_cmp}
use Rattle.std.specs.BTreeMap.{get}
use Rattle.dwarf_info.specs.calls.Pairs.{Knows}
use Rattle.dwarf_info.proofs.known.learn_all.Given as goal

abbrev pub invariant-marks : goal.invariant-marks
invariant-marks g l = record {
  knows : Knows g.V.UnitVersion.pair l.section l.growing.lists (get nat_cmp l.growing.known);
  inside : l.left ≤ length l.marks;
}

abbrev pub decreases-marks : goal.decreases-marks
decreases-marks g l = l.left
