use Rattle.std.proofs.Common.{◌≡◌, ◌≤◌, length, take, reverse}
use Rattle.validate_body.specs.calls.Frames.{pops}
use Rattle.validate_body.proofs.ops.pop_all.Given as goal

abbrev pub invariant-loop-n : goal.invariant-loop-n
invariant-loop-n l = record { within : l.n ≤ length l.types; same : pops l.fn.stack (reverse l.types) ≡ pops l.stack (reverse (take l.n l.types)) }

abbrev pub decreases-loop-n : goal.decreases-loop-n
decreases-loop-n l = l.n
