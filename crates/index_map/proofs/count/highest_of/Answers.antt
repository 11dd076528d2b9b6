use Rattle.std.proofs.Common.{ℕ, slice_get, unwrap_or, arith}
use Rattle.wasm_syntax.specs.declared.instruction.Basic.TheVariants.{Nop}
use Rattle.wasm_syntax.specs.declared.instruction.Instr.TheVariants.{Basic}
use Rattle.wasm_syntax.specs.declared.instruction.Op.{Op}
use Rattle.index_map.proofs.Steps.{highest_more}
use Rattle.index_map.proofs.count.highest_of.Goals as goal

pub loop-j-preserved : goal.loop-j-preserved
loop-j-preserved c =
    let none : Op = record { at = 0; len = 0; code = Basic Nop } in
    let more = highest_more (λ (j : ℕ). unwrap_or (slice_get c.args.heights.now j) 0) c.args.ops.now c.loop-j.j none c.loop-j-test.true in
    omega (arith, more, c.loop-j.invariant, c.greater-most.ensures, c.height_before.ensures.is)
