use Rattle.std.proofs.Common.{◌++◌, None, ap, ◌∙◌}
use Rattle.std.specs.Option.{option_copied}
use Rattle.debug_frames.specs.Frames.{lines_behind}
use Rattle.debug_frames.specs.inner.Resolving.{Resolved}
use Rattle.debug_frames.proofs.LineLaws.{line_more}
use Rattle.debug_frames.proofs.frames.push_lines.Goals as goal

pub loop-standing-preserved : goal.loop-standing-preserved
loop-standing-preserved c =
    let r = c.args.resolved.now in
    let x = c.args.information.now in
    line_more x c.args.index r.address c.args.frame.now r.inlined c.as_slice-standing-items.result.now c.loop-standing.standing-index c.standing-item.result (option_copied c.loop-standing.before)
    c.loop-standing.out c.push_inlined_line.new.out (c.args.out.now ++ lines_behind x c.args.index r.address c.args.frame.now None r.inlined)
    (c.as_slice-standing-items.ensures ∙ ap (λ (q : Resolved). q.inlined) c.resolved.view_is) (ap (λ (q : Resolved). q.inlined) c.requires) c.loop-standing-test.true c.standing-item.is
    c.in_ok-push_inlined_line.ensures c.loop-standing.invariant
