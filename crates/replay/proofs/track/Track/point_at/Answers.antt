use Rattle.std.proofs.Common.{arith}
use Rattle.std.proofs.lemmas.Result.{IfOk-weaker}
use Rattle.replay.proofs.track.Track.point_at.Goals as goal

pub copy_at-requires : goal.copy_at-requires
copy_at-requires c =
    let near = c.before-kept.ensures c.args.recorded.now c.requires.0 c.requires.1 c.requires.2 in
    record { waits = near.waits; before = near.below }

pub returns-clause-near : goal.returns-clause-near
returns-clause-near c =
    let kept = c.before-kept.ensures c.args.recorded.now c.requires.0 c.requires.1 c.requires.2 in
    let near = kept.near c.requires.3 in
    IfOk-weaker c.copy_at.result _ _ (λ q since. omega (arith, near, since)) c.copy_at.ensures.since
