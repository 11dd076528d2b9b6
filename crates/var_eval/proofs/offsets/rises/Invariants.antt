use Rattle.std.proofs.Common.{◌≡◌, length}
use Rattle.var_eval.specs.calls.Offsets.{rises}
use Rattle.var_eval.proofs.offsets.rises.Given as goal

abbrev pub invariant-units : goal.invariant-units
invariant-units l = rises 0 l.units ≡ rises l.least l.left

abbrev pub decreases-units : goal.decreases-units
decreases-units l = length l.left
