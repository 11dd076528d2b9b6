use Rattle.std.proofs.Common.{ℕ, List, [], drop}
use Rattle.line_coverage.specs.inner.Sums.{Adds}
use Rattle.line_coverage.specs.inner.Visits.{bodies_sum}
use Rattle.line_coverage.proofs.visits.visits_of.Given as goal

-- what is still to come completes the sums
abbrev pub invariant-bodies : goal.invariant-bodies
invariant-bodies l = (visits : List (ℕ × ℕ)) → Adds l.visits.entries visits (bodies_sum (drop l.function l.bodies) (drop l.function l.tally.cells)) → Adds [] visits (bodies_sum l.bodies l.tally.cells)
