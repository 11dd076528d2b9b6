use Rattle.std.proofs.Common.{subst, ◌∙◌}
use Rattle.dump_format.specs.declared.dump.Frame.{Frame}
use Rattle.dump_match.specs.Frames.{FunctionFits, LocalsFit, OperandsFit, CallFits, CalleeFits}
use Rattle.wasm_validate.specs.calls.Deciding.{Decides}
use Rattle.dump_match.specs.inner.Stands.{Stands}
use Rattle.dump_match.proofs.Order.{no_function, no_offset, no_locals, no_operands, no_call, no_callee, passes_all}
use Rattle.dump_match.proofs.Spots.{from_spot}
use Rattle.dump_match.proofs.frames.judge_frame.Goals as goal
use Rattle.dump_match.proofs.FrameLists.{frame_at}

pub returns-then-not-is_defined : goal.returns-then-not-is_defined
returns-then-not-is_defined c =
    let m = c.args.m.now in
    let dump = c.args.dump.now in
    let i = c.args.i in
    let f = c.index-frames-i.result in
    let at = frame_at c.as_slice-frames.result.now dump.frames i f c.as_slice-frames.ensures c.requires.there c.index-frames-i.is in
    no_function m dump i f at (subst (λ b. Decides b (FunctionFits m f)) c.if-not-is_defined.true c.is_defined.ensures)

pub returns-in_default : goal.returns-in_default
returns-in_default c =
    let m = c.args.m.now in
    let dump = c.args.dump.now in
    let i = c.args.i in
    let f = c.index-frames-i.result in
    let at = frame_at c.as_slice-frames.result.now dump.frames i f c.as_slice-frames.ensures c.requires.there c.index-frames-i.is in
    no_offset m dump i f at (subst (λ b. Decides b (FunctionFits m f)) c.if-not-is_defined.false c.is_defined.ensures) c.in_default.ensures

pub returns-then-not-locals_fit : goal.returns-then-not-locals_fit
returns-then-not-locals_fit c =
    let m = c.args.m.now in
    let dump = c.args.dump.now in
    let i = c.args.i in
    let f = c.index-frames-i.result in
    let at = frame_at c.as_slice-frames.result.now dump.frames i f c.as_slice-frames.ensures c.requires.there c.index-frames-i.is in
    let same = c.parts-parts.ensures.value ∙ c.module.ensures.value in
    let st : Stands m f c.in-Some.stand = c.in-Some.ensures in
    let fun = subst (λ b. Decides b (FunctionFits m f)) c.if-not-is_defined.false c.is_defined.ensures in
    let off = from_spot m f c.in-Some.stand st (λ s. Unit {0}) tt in
    let locals_ = subst (λ x. Decides c.locals_fit.result (LocalsFit x f)) same c.locals_fit.ensures in
    let loc = subst (λ b. Decides b (LocalsFit m f)) c.if-not-locals_fit.true locals_ in
    no_locals m dump i f at fun off loc

pub returns-then-not-operands_fit : goal.returns-then-not-operands_fit
returns-then-not-operands_fit c =
    let m = c.args.m.now in
    let dump = c.args.dump.now in
    let i = c.args.i in
    let f = c.index-frames-i.result in
    let at = frame_at c.as_slice-frames.result.now dump.frames i f c.as_slice-frames.ensures c.requires.there c.index-frames-i.is in
    let same = c.parts-parts.ensures.value ∙ c.module.ensures.value in
    let st : Stands m f c.in-Some.stand = c.in-Some.ensures in
    let fun = subst (λ b. Decides b (FunctionFits m f)) c.if-not-is_defined.false c.is_defined.ensures in
    let off = from_spot m f c.in-Some.stand st (λ s. Unit {0}) tt in
    let locals_ = subst (λ x. Decides c.locals_fit.result (LocalsFit x f)) same c.locals_fit.ensures in
    let loc = subst (λ b. Decides b (LocalsFit m f)) c.if-not-locals_fit.false locals_ in
    let ops = subst (λ b. Decides b (OperandsFit m i f)) c.if-not-operands_fit.true c.operands_fit.ensures in
    no_operands m dump i f at fun off loc ops

pub returns-then-not-call_fits : goal.returns-then-not-call_fits
returns-then-not-call_fits c =
    let m = c.args.m.now in
    let dump = c.args.dump.now in
    let i = c.args.i in
    let f = c.index-frames-i.result in
    let at = frame_at c.as_slice-frames.result.now dump.frames i f c.as_slice-frames.ensures c.requires.there c.index-frames-i.is in
    let same = c.parts-parts.ensures.value ∙ c.module.ensures.value in
    let st : Stands m f c.in-Some.stand = c.in-Some.ensures in
    let fun = subst (λ b. Decides b (FunctionFits m f)) c.if-not-is_defined.false c.is_defined.ensures in
    let off = from_spot m f c.in-Some.stand st (λ s. Unit {0}) tt in
    let locals_ = subst (λ x. Decides c.locals_fit.result (LocalsFit x f)) same c.locals_fit.ensures in
    let loc = subst (λ b. Decides b (LocalsFit m f)) c.if-not-locals_fit.false locals_ in
    let ops = subst (λ b. Decides b (OperandsFit m i f)) c.if-not-operands_fit.false c.operands_fit.ensures in
    let call = subst (λ b. Decides b (CallFits m i f)) c.if-not-call_fits.true (c.call_fits.ensures m f st) in
    no_call m dump i f at fun off loc ops call

pub returns-then-not-callee_fits : goal.returns-then-not-callee_fits
returns-then-not-callee_fits c =
    let m = c.args.m.now in
    let dump = c.args.dump.now in
    let i = c.args.i in
    let f = c.index-frames-i.result in
    let at = frame_at c.as_slice-frames.result.now dump.frames i f c.as_slice-frames.ensures c.requires.there c.index-frames-i.is in
    let same = c.parts-parts.ensures.value ∙ c.module.ensures.value in
    let st : Stands m f c.in-Some.stand = c.in-Some.ensures in
    let fun = subst (λ b. Decides b (FunctionFits m f)) c.if-not-is_defined.false c.is_defined.ensures in
    let off = from_spot m f c.in-Some.stand st (λ s. Unit {0}) tt in
    let locals_ = subst (λ x. Decides c.locals_fit.result (LocalsFit x f)) same c.locals_fit.ensures in
    let loc = subst (λ b. Decides b (LocalsFit m f)) c.if-not-locals_fit.false locals_ in
    let ops = subst (λ b. Decides b (OperandsFit m i f)) c.if-not-operands_fit.false c.operands_fit.ensures in
    let call = subst (λ b. Decides b (CallFits m i f)) c.if-not-call_fits.false (c.call_fits.ensures m f st) in
    let callee_ = subst (λ x. (g : Frame) → Stands x g c.in-Some.stand → Decides c.callee_fits.result (CalleeFits x c.as_slice-frames.result.now i g)) same c.callee_fits.ensures f st in
    let callee = subst (λ b. Decides b (CalleeFits m dump.frames i f)) c.if-not-callee_fits.true (subst (λ xs. Decides c.callee_fits.result (CalleeFits m xs i f)) c.as_slice-frames.ensures callee_) in
    no_callee m dump i f at fun off loc ops call callee

pub returns : goal.returns
returns c =
    let m = c.args.m.now in
    let dump = c.args.dump.now in
    let i = c.args.i in
    let f = c.index-frames-i.result in
    let at = frame_at c.as_slice-frames.result.now dump.frames i f c.as_slice-frames.ensures c.requires.there c.index-frames-i.is in
    let same = c.parts-parts.ensures.value ∙ c.module.ensures.value in
    let st : Stands m f c.in-Some.stand = c.in-Some.ensures in
    let fun = subst (λ b. Decides b (FunctionFits m f)) c.if-not-is_defined.false c.is_defined.ensures in
    let off = from_spot m f c.in-Some.stand st (λ s. Unit {0}) tt in
    let locals_ = subst (λ x. Decides c.locals_fit.result (LocalsFit x f)) same c.locals_fit.ensures in
    let loc = subst (λ b. Decides b (LocalsFit m f)) c.if-not-locals_fit.false locals_ in
    let ops = subst (λ b. Decides b (OperandsFit m i f)) c.if-not-operands_fit.false c.operands_fit.ensures in
    let call = subst (λ b. Decides b (CallFits m i f)) c.if-not-call_fits.false (c.call_fits.ensures m f st) in
    let callee_ = subst (λ x. (g : Frame) → Stands x g c.in-Some.stand → Decides c.callee_fits.result (CalleeFits x c.as_slice-frames.result.now i g)) same c.callee_fits.ensures f st in
    let callee = subst (λ b. Decides b (CalleeFits m dump.frames i f)) c.if-not-callee_fits.false (subst (λ xs. Decides c.callee_fits.result (CalleeFits m xs i f)) c.as_slice-frames.ensures callee_) in
    passes_all m dump i f at fun off loc ops call callee
