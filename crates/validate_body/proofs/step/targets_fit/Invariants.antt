use Rattle.std.proofs.Common.{◌≡◌, ◌+◌, take, drop}
use Rattle.validate_body.specs.calls.Algorithm.{targets_fit}
use Rattle.validate_body.proofs.step.targets_fit.Given as goal

abbrev pub invariant-loop-n : goal.invariant-loop-n
invariant-loop-n l = record { within : l.k + l.n ≡ l.start + l.count; same : targets_fit l.stack l.t (take l.count (drop l.start l.targets)) ≡ targets_fit l.stack l.t (take l.n (drop l.k l.targets)) }

abbrev pub decreases-loop-n : goal.decreases-loop-n
decreases-loop-n l = l.n
