use Rattle.std.proofs.Common.{arith}
use Rattle.replay.proofs.Tracks.{settled}
use Rattle.replay.proofs.track.Track.settle.Goals as goal

pub returns-then-len-eq-MOST : goal.returns-then-len-eq-MOST
returns-then-len-eq-MOST c = λ x every end covers.
    let t = c.args.self.now in
    let joined = c.join.new.self in
    let all = c.if-len-eq-MOST.true in
    let narrow = c.if-self.true in
    settled x every end t.spacing t.wide joined.spacing joined.wide t.points.items joined.points.items covers c.if-self-gt0.true (omega (arith, narrow, all, c.len.ensures, t.points.ok.0)) c.join.ensures.spacing c.join.ensures.wide c.join.ensures.points
