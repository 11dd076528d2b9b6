use Rattle.std.proofs.Common.{◌≡◌, drop}
use Rattle.wasm_syntax.specs.Numbers.{types}
use Rattle.wasm_syntax.specs.Module.{same_types}
use Rattle.wasm_machine.proofs.entries.have_types.Given as goal

abbrev pub invariant-loop-i : goal.invariant-loop-i
invariant-loop-i l = same_types (drop l.i l.params) (types (drop l.i l.args)) ≡ same_types l.params (types l.args)
