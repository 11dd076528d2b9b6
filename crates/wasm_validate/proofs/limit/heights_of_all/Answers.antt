use Rattle.std.proofs.Common.{◌++◌, [], ◌∷◌, map, ap, ◌∙◌, arith}
use Rattle.wasm_validate.specs.calls.MarkedHeights.{height_or_zero}
use Rattle.wasm_validate.proofs.HeightLaws.{map_next, map_whole}
use Rattle.wasm_validate.proofs.limit.heights_of_all.Goals as goal

pub heights_of_marks-requires : goal.heights_of_marks-requires
heights_of_marks-requires c = c.requires c.loop-i.i c.marks_in.result.now c.marks_in.ensures

pub loop-i-preserved : goal.loop-i-preserved
loop-i-preserved c = record {
  within = omega (arith, c.loop-i-test.true);
  so_far = c.in_ok-push.ensures.ok ∙ ap (λ l. c.loop-i.heights ++ l ∷ []) c.in_ok-list.ensures ∙ map_next (map height_or_zero) c.args.all.now c.loop-i.i c.marks_in.result.now c.loop-i.heights c.marks_in.ensures c.loop-i.invariant.so_far;
}

pub returns : goal.returns
returns c = map_whole (map height_or_zero) c.args.all.now c.loop-i.i c.loop-i.heights c.loop-i-test.false c.loop-i.invariant.so_far
