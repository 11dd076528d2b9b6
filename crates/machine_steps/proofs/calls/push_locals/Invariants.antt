use Rattle.std.proofs.Common.{◌≡◌, ◌++◌, reverse, take}
use Rattle.wasm_syntax.specs.Module.{declared_locals}
use Rattle.wasm_syntax.specs.Machine.{zeros}
use Rattle.machine_steps.proofs.calls.push_locals.Given as goal

abbrev pub invariant-loop-group : goal.invariant-loop-group
invariant-loop-group l = l.values ≡ reverse (zeros (declared_locals (take l.group-index l.groups))) ++ l.initial.values
