use Rattle.std.proofs.Common.{◌≡◌, ◌++◌, drop, map, Some}
use Rattle.rewrite_bodies.specs.calls.Facts.{others, is_local}
use Rattle.operand_spill.specs.inner.Exposing.{fact}
use Rattle.operand_spill.proofs.facts.unwritten.Given as goal

abbrev pub invariant-loop-found : goal.invariant-loop-found
invariant-loop-found l = map fact l.left.items ++ others (is_local (Some l.local)) (map fact (drop l.found-index l.items)) ≡ others (is_local (Some l.local)) (map fact l.items)
