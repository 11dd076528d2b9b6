use Rattle.std.proofs.Common.{arith}
use Rattle.replay.proofs.Tracks.{within_gap}
use Rattle.replay.proofs.track.Track.index.Goals as goal

pub returns-then-index-last-clause-near : goal.returns-then-index-last-clause-near
returns-then-index-last-clause-near c = λ le.
    let t = c.args.self.now in
    let last = c.index_within-index.ensures.last in
    within_gap t.wide c.index_within-index.result t.spacing c.args.step c.requires.apart (omega (arith, last))
