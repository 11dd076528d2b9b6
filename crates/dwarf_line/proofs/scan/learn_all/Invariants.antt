use Rattle.std.proofs.Common.{length}
use Rattle.std.specs.Ordering.{nat_cmp}
use Rattle.std.specs.BTreeMap.{get}
use Rattle.dwarf_line.specs.inner.Scans.{AreKnown}
use Rattle.dwarf_line.proofs.scan.learn_all.Given as goal

abbrev pub invariant-marks : goal.invariant-marks
invariant-marks l = AreKnown l.parameters l.block (get nat_cmp l.known)

abbrev pub decreases-marks : goal.decreases-marks
decreases-marks l = length l.marks.items
