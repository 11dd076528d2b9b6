use Rattle.std.proofs.Common.{length, refl}
use Rattle.std.proofs.lemmas.Option.{slice_get_read}
use Rattle.replay.proofs.track.point_of.Goals as goal

pub returns : goal.returns
returns c = slice_get_read c.args.points.now (length c.args.points.now) c.args.index c.index-points-index.result refl c.requires c.index-points-index.is
