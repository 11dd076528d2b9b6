use Rattle.std.proofs.Common.{◌≤◌, ◌++◌, [], ◌∷◌, ap, subst, sym, ◌∙◌, arith}
use Rattle.wasm_validate.specs.calls.MarkedHeights.{height_or_zero}
use Rattle.wasm_validate.proofs.HeightLaws.{map_next, map_whole, low_height}
use Rattle.wasm_validate.proofs.limit.heights_of_marks.Goals as goal

pub overflow_cast-height : goal.overflow_cast-height
overflow_cast-height c =
    let k : c.height_of-height.result ≤ 4096 = subst (λ n. n ≤ 4096) (sym c.height_of-height.ensures) (low_height c.args.marks.now c.loop-i.i c.mark_in.result c.requires c.mark_in.ensures) in
    omega (arith, k)

pub loop-i-preserved : goal.loop-i-preserved
loop-i-preserved c = record {
  within = omega (arith, c.loop-i-test.true);
  so_far = c.in_ok-push.ensures.ok ∙ ap (λ n. c.loop-i.heights ++ n ∷ []) c.height_of-height.ensures ∙ map_next height_or_zero c.args.marks.now c.loop-i.i c.mark_in.result c.loop-i.heights c.mark_in.ensures c.loop-i.invariant.so_far;
}

pub returns : goal.returns
returns c = map_whole height_or_zero c.args.marks.now c.loop-i.i c.loop-i.heights c.loop-i-test.false c.loop-i.invariant.so_far
