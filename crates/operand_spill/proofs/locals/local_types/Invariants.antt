use Rattle.std.proofs.Common.{◌≡◌, ◌++◌, take}
use Rattle.wasm_syntax.specs.Module.{declared_locals}
use Rattle.operand_spill.proofs.locals.local_types.Given as goal

abbrev pub invariant-loop-group : goal.invariant-loop-group
invariant-loop-group l = l.types ≡ l.fn.params ++ declared_locals (take l.group-index l.groups)
