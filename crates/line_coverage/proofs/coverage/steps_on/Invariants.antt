use Rattle.std.proofs.Common.{◌≡◌, drop}
use Rattle.line_coverage.specs.calls.Spots.{steps_on}
use Rattle.line_coverage.proofs.coverage.steps_on.Given as goal

abbrev pub invariant-loop-counted : goal.invariant-loop-counted
invariant-loop-counted l = steps_on (drop l.counted-index l.lines) l.spot ≡ steps_on l.lines l.spot
