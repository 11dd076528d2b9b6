use Rattle.std.proofs.Common.{◌≡◌, ◌≤◌, ◌-◌, length, take, reverse}
use Rattle.validate_body.specs.calls.Frames.{pushes}
use Rattle.validate_body.proofs.ops.push_all.Given as goal

abbrev pub invariant-loop-n : goal.invariant-loop-n
invariant-loop-n l = record { within : l.n ≤ length l.types; same : l.stack ≡ pushes l.fn.stack (reverse (take l.n l.types)) }

abbrev pub decreases-loop-n : goal.decreases-loop-n
decreases-loop-n l = length l.types - l.n
