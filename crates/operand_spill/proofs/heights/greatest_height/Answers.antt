use Rattle.operand_spill.proofs.Greatest.{none_greatest, greatest_more}
use Rattle.operand_spill.proofs.heights.greatest_height.Goals as goal

pub loop-op-init : goal.loop-op-init
loop-op-init c = none_greatest c.args.source.now c.args.func

pub loop-op-preserved : goal.loop-op-preserved
loop-op-preserved c =
    greatest_more c.args.source.now c.args.func c.loop-op.op c.loop-op.most c.greater-most.result c.height.result c.loop-op.invariant (c.requires c.loop-op.op c.loop-op-test.true) c.height.ensures c.greater-most.ensures.over c.greater-most.ensures.holds c.greater-most.ensures.either
