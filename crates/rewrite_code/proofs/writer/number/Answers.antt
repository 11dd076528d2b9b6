use Rattle.std.proofs.Common.{◌∙◌, arith}
use Rattle.rewrite_code.proofs.Numbers.{numbers_more, all_numbered}
use Rattle.rewrite_code.proofs.writer.number.Goals as goal

pub loop-op-preserved : goal.loop-op-preserved
loop-op-preserved c = record {
  so_far = numbers_more c.args.ops.now c.loop-op.ops c.loop-op.op-index c.loop-op.at _ (omega (arith, c.loop-op-test.true, c.loop-op.auto.ops)) c.loop-op.invariant.next c.loop-op.invariant.so_far;
  next = omega (arith, c.saturating_add-at.ensures, c.loop-op.invariant.next);
}

pub returns : goal.returns
returns c = c.loop-op.invariant.so_far ∙ all_numbered c.loop-op.op-index c.args.ops.now (omega (arith, c.loop-op-test.false, c.loop-op.auto.ops, c.loop-op.auto.op-index-end))
