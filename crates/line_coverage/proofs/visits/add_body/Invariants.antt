use Rattle.std.proofs.Common.{ℕ, List, drop}
use Rattle.line_coverage.specs.inner.Sums.{Adds}
use Rattle.line_coverage.specs.inner.Visits.{ops_sum}
use Rattle.line_coverage.proofs.visits.add_body.Given as goal

-- what is still to come completes the sums
abbrev pub invariant-ops : goal.invariant-ops
invariant-ops l = (visits : List (ℕ × ℕ)) → Adds l.visits.entries visits (ops_sum l.body.start (drop l.index l.ops) (drop l.index l.cells)) → Adds l.initial.visits.entries visits (ops_sum l.body.start l.ops l.cells)
