use Rattle.std.proofs.Common.{◌∙◌, map, arith}
use Rattle.std.proofs.lemmas.List.{length-map}
use Rattle.rewrite_bodies.specs.calls.Slots.{uncopied}
use Rattle.rewrite_code.specs.calls.Places.{place, these}
use Rattle.rewrite_code.proofs.Copying.{uncopied_more, all_uncopied}
use Rattle.rewrite_code.proofs.place.uncopy_all.Goals as goal

pub loop-operand-preserved : goal.loop-operand-preserved
loop-operand-preserved c = record {
  so_far = uncopied_more (uncopied (these c.args.meant)) (map place c.args.operands.now) c.loop-operand.operands c.loop-operand.operand-index c.uncopied.result _ (omega (arith, c.loop-operand-test.true, c.loop-operand.auto.operands, length-map c.args.operands.now place)) c.loop-operand.invariant.so_far c.uncopied.ensures;
}

pub returns : goal.returns
returns c =
    c.loop-operand.invariant.so_far
    ∙ all_uncopied (uncopied (these c.args.meant)) c.loop-operand.operand-index (map place c.args.operands.now) (omega (arith, c.loop-operand-test.false, c.loop-operand.auto.operands, c.loop-operand.auto.operand-index-end, length-map c.args.operands.now place))
