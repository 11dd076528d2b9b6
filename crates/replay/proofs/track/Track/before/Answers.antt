use Rattle.std.proofs.Common.{List, slice_get, sym, ap, ◌∙◌}
use Rattle.replay.specs.declared.point.Point.{Point}
use Rattle.replay.proofs.Tracks.{nearest}
use Rattle.replay.proofs.track.Track.before.Goals as goal

pub returns : goal.returns
returns c = λ x every end covers.
    let t = c.args.self.now in
    let i = c.index-index.result in
    nearest x every end t.spacing t.wide i c.args.step t.points.items c.point_of.result.now covers (ap (λ (ps : List Point). slice_get ps i) (sym c.deref.ensures.value) ∙ c.point_of.ensures) c.index-index.ensures.below c.index-index.ensures.near
