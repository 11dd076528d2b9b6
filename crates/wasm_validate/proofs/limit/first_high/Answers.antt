use Rattle.std.proofs.Common.{arith}
use Rattle.wasm_validate.proofs.HeightLaws.{low_none, low_more, low_all}
use Rattle.wasm_validate.proofs.limit.first_high.Goals as goal

pub loop-i-init : goal.loop-i-init
loop-i-init c = record { within = omega arith; low = low_none c.args.all.now }

pub returns-then-most-gt-GREATEST : goal.returns-then-most-gt-GREATEST
returns-then-most-gt-GREATEST c = (c.loop-i.i, c.marks_in.result.now, c.marks_in.ensures, c.greatest_height-most.ensures, c.if-most-gt-GREATEST.true, c.loop-i.invariant.low)

pub loop-i-preserved : goal.loop-i-preserved
loop-i-preserved c = record {
  within = omega (arith, c.loop-i-test.true);
  low = low_more c.args.all.now c.loop-i.i c.greatest_height-most.result c.marks_in.result.now c.marks_in.ensures c.greatest_height-most.ensures c.if-most-gt-GREATEST.false c.loop-i.invariant.low;
}

pub returns : goal.returns
returns c = low_all c.args.all.now c.loop-i.i c.loop-i-test.false c.loop-i.invariant.low
