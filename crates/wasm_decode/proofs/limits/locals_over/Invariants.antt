use Rattle.std.proofs.Common.{◌≡◌, drop}
use Rattle.wasm_syntax.specs.declared.quantity.Quantity.TheVariants.{Locals}
use Rattle.wasm_decode.specs.Decode.{all_locals, first_over}
use Rattle.wasm_decode.proofs.limits.locals_over.Given as goal

abbrev pub invariant-loop-index : goal.invariant-loop-index
invariant-loop-index l = first_over Locals (all_locals l.types l.functions l.bodies) ≡ first_over Locals (all_locals l.types (drop l.index l.functions) (drop l.index l.bodies))
