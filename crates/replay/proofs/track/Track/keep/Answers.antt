use Rattle.machine_hosted.specs.declared.answer.RunEnd.TheVariants.{FuelSpent}
use Rattle.std.proofs.lemmas.Result.{on_ok_weaker}
use Rattle.replay.proofs.Tracks.{added, copy_stands}
use Rattle.replay.proofs.track.Track.keep.Goals as goal

pub returns : goal.returns
returns c = λ x every here d w.
    let due = c.thin.ensures x every here d in
    let t = c.thin.new.self in
    on_ok_weaker c.add.result (λ more. added x every here t.spacing t.wide t.points.items c.add.new.points.items c.in_ok-copy.copy due.0 due.1 (copy_stands x here FuelSpent c.args.point.now c.in_ok-copy.copy w c.in_ok-copy.ensures.same) more) c.add.ensures
