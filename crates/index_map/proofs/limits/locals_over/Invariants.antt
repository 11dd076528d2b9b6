use Rattle.std.proofs.Common.{◌≡◌, drop}
use Rattle.wasm_syntax.specs.declared.quantity.Quantity.TheVariants.{InstrumentLocals}
use Rattle.index_map.specs.Limits.{function_locals, first_over}
use Rattle.index_map.proofs.limits.locals_over.Given as goal

abbrev pub invariant-loop-i : goal.invariant-loop-i
invariant-loop-i l = first_over InstrumentLocals (function_locals l.parts 0 l.bodies) ≡ first_over InstrumentLocals (function_locals l.parts l.i (drop l.i l.bodies))
