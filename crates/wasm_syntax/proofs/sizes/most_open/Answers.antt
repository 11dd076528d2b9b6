use Rattle.std.proofs.Common.{◌+◌, ℕ, map, drop, sym, ap, ◌∙◌, arith}
use Rattle.std.specs.Prelude.{get_or, max}
use Rattle.wasm_syntax.specs.declared.instruction.Basic.TheVariants.{Nop}
use Rattle.wasm_syntax.specs.declared.instruction.Instr.TheVariants.{Basic}
use Rattle.wasm_syntax.specs.declared.instruction.Op.{Op}
use Rattle.wasm_syntax.specs.Sizes.{deepest}
use Rattle.wasm_syntax.proofs.Counts.{behind_few, deeper}
use Rattle.wasm_syntax.proofs.sizes.most_open.Goals as goal

pub loop-op-preserved : goal.loop-op-preserved
loop-op-preserved c =
    let v = c.loop-op.invariant in
    let ops = c.args.ops.now in
    let none : Op = record { at = 0; len = 0; code = Basic Nop } in
    let on = deeper ops c.loop-op.op-index c.loop-op.depth c.loop-op.most c.depth_behind-depth.result none c.loop-op-test.true v.below c.depth_behind-depth.ensures in
    record {
      so_far = v.so_far ∙ on ∙ ap (λ (m : ℕ). max m (deepest c.depth_behind-depth.result (map (λ o. o.code) (drop (c.loop-op.op-index + 1) ops)))) (sym c.greater-most.ensures);
      below = omega (arith, c.greater-most.ensures);
      few = omega (arith, behind_few c.loop-op.depth (get_or ops c.loop-op.op-index none).code, c.depth_behind-depth.ensures, v.few);
    }
