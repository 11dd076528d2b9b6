use Rattle.std.proofs.Common.{◌≡◌, drop}
use Rattle.wasm_syntax.specs.declared.quantity.Quantity.TheVariants.{InstrumentHeight}
use Rattle.index_map.specs.Limits.{function_heights, first_over}
use Rattle.index_map.proofs.limits.heights_over.Given as goal

abbrev pub invariant-loop-i : goal.invariant-loop-i
invariant-loop-i l = first_over InstrumentHeight (function_heights l.heights 0 l.bodies) ≡ first_over InstrumentHeight (function_heights l.heights l.i (drop l.i l.bodies))
