use Rattle.std.proofs.Common.{◌-◌}
use Rattle.replay.proofs.Moving.{Ahead}
use Rattle.replay.proofs.ahead.looked_ahead.Given as goal

abbrev pub invariant-steps : goal.invariant-steps
invariant-steps l = Ahead l.recorded l.function l.offset l.from l.end l.step l.ahead

abbrev pub decreases-steps : goal.decreases-steps
decreases-steps l = l.end - l.step
