use Rattle.std.proofs.Common.{◌≡◌, ◌++◌, reverse, take}
use Rattle.machine_steps.proofs.entry.push_values.Given as goal

abbrev pub invariant-loop-v : goal.invariant-loop-v
invariant-loop-v l = l.values ≡ reverse (take l.v-index l.args) ++ l.initial.values
