use Rattle.std.proofs.Common.{ℕ, ◌<◌}
use Rattle.dump_match.specs.States.{ClosesAt}
use Rattle.dump_match.proofs.close.some_closes_at.Given as goal

abbrev pub invariant-loop-n : goal.invariant-loop-n
invariant-loop-n l = (k : ℕ) → k < l.n → ClosesAt l.ops k l.at → ⊥
