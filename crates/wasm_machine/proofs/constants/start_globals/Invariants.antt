use Rattle.std.proofs.Common.{◌≡◌, take, map}
use Rattle.wasm_syntax.specs.calls.Starting.{initial_value}
use Rattle.wasm_machine.proofs.constants.start_globals.Given as goal

abbrev pub invariant-loop-global : goal.invariant-loop-global
invariant-loop-global l = l.values.items ≡ map initial_value (take l.global-index l.globals)
