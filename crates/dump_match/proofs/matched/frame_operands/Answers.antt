use Rattle.std.proofs.Common.{sym, subst}
use Rattle.std.specs.Prelude.{IfSome}
use Rattle.dump_match.specs.States.{StateOperandCount}
use Rattle.dump_match.proofs.matched.frame_operands.Goals as goal
use Rattle.dump_match.proofs.FrameLists.{frame_at}

pub returns : goal.returns
returns c =
    let m = c.args.m.now in
    let dump = c.args.dump.now in
    let at = frame_at c.as_slice-frames.result.now dump.frames c.args.index c.index-frames-index.result c.as_slice-frames.ensures c.requires c.index-frames-index.is in
    subst (λ o. IfSome o (λ f. StateOperandCount m c.args.index f c.operand_count.result)) (sym at) c.operand_count.ensures
