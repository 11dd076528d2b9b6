use Rattle.std.proofs.Common.{arith}
use Rattle.std.proofs.lemmas.Result.{IfOk-weaker}
use Rattle.replay.proofs.Moving.{goes_up_to}
use Rattle.replay.proofs.track.Track.point_from.Goals as goal

pub copy_at-requires : goal.copy_at-requires
copy_at-requires c =
    let r = c.requires in
    let lt = c.is_between.ensures.before c.if-is_between.true in
    let stands = goes_up_to c.args.recorded.now c.args.from c.args.step r.covers.1 r.stands.0 c.args.shown.now r.stands.1 r.covers.4 lt r.covers.3 in
    let made = stands.1 in
    record { waits = stands.0; before = omega (arith, made, lt) }

pub returns-then-is_between-clause-near : goal.returns-then-is_between-clause-near
returns-then-is_between-clause-near c =
    let r = c.requires in
    let lt = c.is_between.ensures.before c.if-is_between.true in
    let le = c.is_between.ensures.behind c.if-is_between.true in
    let made = (goes_up_to c.args.recorded.now c.args.from c.args.step r.covers.1 r.stands.0 c.args.shown.now r.stands.1 r.covers.4 lt r.covers.3).1 in
    let kept = c.before-kept.ensures c.args.recorded.now r.covers.0 r.covers.1 r.covers.2 in
    let near = kept.near r.covers.3 in
    let steps = c.steps-made.ensures in
    IfOk-weaker c.copy_at.result _ _ (λ q since. omega (arith, made, le, near, steps, since)) c.copy_at.ensures.since
