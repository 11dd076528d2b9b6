use Rattle.std.proofs.Common.{arith}
use Rattle.wasm_validate.proofs.HeightLaws.{greatest_none, greatest_more, greatest_all}
use Rattle.wasm_validate.proofs.limit.greatest_height.Goals as goal

pub loop-i-init : goal.loop-i-init
loop-i-init c = record { within = omega arith; so_far = greatest_none c.args.marks.now }

pub loop-i-preserved : goal.loop-i-preserved
loop-i-preserved c = record {
  within = omega (arith, c.loop-i-test.true);
  so_far = greatest_more c.args.marks.now c.loop-i.i c.loop-i.most c.greater-most.result c.mark_in.result c.mark_in.ensures c.loop-i.invariant.so_far c.greater-most.ensures.over c.greater-most.ensures.holds c.greater-most.ensures.either;
}

pub returns : goal.returns
returns c = greatest_all c.args.marks.now c.loop-i.i c.loop-i.most c.loop-i-test.false c.loop-i.invariant.so_far
