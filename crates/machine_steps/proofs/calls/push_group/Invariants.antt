use Rattle.std.proofs.Common.{◌≡◌, ◌++◌, replicate}
use Rattle.machine_steps.proofs.calls.push_group.Given as goal

abbrev pub invariant-loop-i : goal.invariant-loop-i
invariant-loop-i l = l.values ≡ replicate l.i l.zero ++ l.initial.values
