use Rattle.std.proofs.Common.{◌≡◌, ◌++◌, drop, map}
use Rattle.rewrite_bodies.specs.calls.Facts.{others}
use Rattle.operand_spill.specs.inner.Exposing.{fact, held}
use Rattle.operand_spill.proofs.facts.unmarked.Given as goal

abbrev pub invariant-loop-found : goal.invariant-loop-found
invariant-loop-found l = map fact l.left.items ++ others (held l.marks) (map fact (drop l.found-index l.items)) ≡ others (held l.marks) (map fact l.items)
