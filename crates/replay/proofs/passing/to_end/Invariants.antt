use Rattle.std.proofs.Common.{◌≤◌, ◌-◌}
use Rattle.replay.specs.inner.Tracks.{WaitsAt, DueIn}
use Rattle.replay.proofs.passing.to_end.Given as goal

abbrev pub invariant-pieces : goal.invariant-pieces
invariant-pieces l = record { waits : WaitsAt l.recorded l.made l.point; due : DueIn l.recorded l.every l.made l.track; within : l.made ≤ l.recorded.fuel }

abbrev pub decreases-pieces : goal.decreases-pieces
decreases-pieces l = l.recorded.fuel - l.made
