use Rattle.std.proofs.Common.{arith}
use Rattle.replay.proofs.Tracks.{one_wider, all_wide}
use Rattle.replay.proofs.track.Track.thin.Goals as goal

pub returns-then-self : goal.returns-then-self
returns-then-self c = λ x every here d.
    let t = c.args.self.now in
    let joined = c.join.new.self in
    let many = c.if-len-lt-MOST.false in
    let wide = c.if-self.true in
    all_wide x every here t.spacing t.wide joined.wide joined.spacing t.points.items joined.points.items d (omega (arith, many, c.len.ensures, t.points.ok.0)) c.join.ensures.wide c.join.ensures.points c.join.ensures.spacing (omega (arith, wide))

pub returns-else-self : goal.returns-else-self
returns-else-self c = λ x every here d.
    let t = c.args.self.now in
    let joined = c.join.new.self in
    let many = c.if-len-lt-MOST.false in
    let narrow = c.if-self.false in
    let before = c.requires.some_narrow in
    let one = c.join.ensures.wide in
    one_wider x every here t.spacing t.wide joined.wide joined.spacing t.points.items joined.points.items d (omega (arith, many, c.len.ensures, t.points.ok.0)) one c.join.ensures.points c.join.ensures.spacing (omega (arith, narrow, before, one))
