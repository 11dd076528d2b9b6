use Rattle.std.specs.Ordering.{nat_cmp}
use Rattle.std.specs.BTreeMap.{get}
use Rattle.dump_match.specs.inner.Kept.{KeepsGroups}
use Rattle.dump_match.proofs.kept.groups_of.Given as goal

abbrev pub invariant-loop-frame : goal.invariant-loop-frame
invariant-loop-frame l = KeepsGroups l.m (get nat_cmp l.kept)
