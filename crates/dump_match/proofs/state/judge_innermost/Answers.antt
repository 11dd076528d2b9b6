use Rattle.std.proofs.Common.{subst, ◌∙◌}
use Rattle.wasm_validate.specs.calls.Deciding.{Decides}
use Rattle.dump_match.specs.Frames.{LocalsFit}
use Rattle.dump_match.specs.States.{AtClose}
use Rattle.dump_match.proofs.FrameLists.{frame_at}
use Rattle.dump_match.proofs.InState.{inner_at, closing, no_locals}
use Rattle.dump_match.proofs.state.judge_innermost.Goals as goal

pub returns-then-not-is_at_close : goal.returns-then-not-is_at_close
returns-then-not-is_at_close c =
    let m = c.args.m.now in
    let dump = c.args.dump.now in
    let f = c.index-frames-0.result in
    let at = frame_at c.as_slice-frames.result.now dump.frames 0 f c.as_slice-frames.ensures c.requires.there c.index-frames-0.is in
    inner_at m dump c.judge_frame.result f at (subst (λ b. Decides b (AtClose m f)) c.if-not-is_at_close.true c.is_at_close.ensures) c.judge_frame.ensures

pub returns-then-locals_fit : goal.returns-then-locals_fit
returns-then-locals_fit c =
    let m = c.args.m.now in
    let dump = c.args.dump.now in
    let f = c.index-frames-0.result in
    let at = frame_at c.as_slice-frames.result.now dump.frames 0 f c.as_slice-frames.ensures c.requires.there c.index-frames-0.is in
    let same = c.parts.ensures.value ∙ c.module.ensures.value in
    let close = subst (λ b. Decides b (AtClose m f)) c.if-not-is_at_close.false c.is_at_close.ensures in
    let locals_ = subst (λ x. Decides c.locals_fit.result (LocalsFit x f)) same c.locals_fit.ensures in
    closing m dump f at close (subst (λ b. Decides b (LocalsFit m f)) c.if-locals_fit.true locals_)

pub returns-else-locals_fit : goal.returns-else-locals_fit
returns-else-locals_fit c =
    let m = c.args.m.now in
    let dump = c.args.dump.now in
    let f = c.index-frames-0.result in
    let at = frame_at c.as_slice-frames.result.now dump.frames 0 f c.as_slice-frames.ensures c.requires.there c.index-frames-0.is in
    let same = c.parts.ensures.value ∙ c.module.ensures.value in
    let close = subst (λ b. Decides b (AtClose m f)) c.if-not-is_at_close.false c.is_at_close.ensures in
    let locals_ = subst (λ x. Decides c.locals_fit.result (LocalsFit x f)) same c.locals_fit.ensures in
    no_locals m dump f at close (subst (λ b. Decides b (LocalsFit m f)) c.if-locals_fit.false locals_)
