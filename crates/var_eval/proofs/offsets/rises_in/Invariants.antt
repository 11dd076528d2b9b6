use Rattle.std.proofs.Common.{◌≡◌, length}
use Rattle.var_eval.specs.calls.Offsets.{rises_in}
use Rattle.var_eval.proofs.offsets.rises_in.Given as goal

abbrev pub invariant-entries : goal.invariant-entries
invariant-entries l = rises_in l.initial.least l.entries ≡ rises_in l.least l.left

abbrev pub decreases-entries : goal.decreases-entries
decreases-entries l = length l.left
