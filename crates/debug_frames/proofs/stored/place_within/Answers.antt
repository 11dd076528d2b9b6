use Rattle.std.proofs.Common.{sym, ◌∙◌}
use Rattle.debug_frames.specs.Programs.{program_there}
use Rattle.debug_frames.proofs.StoreLaws.{no_place}
use Rattle.debug_frames.proofs.stored.place_within.Goals as goal

pub returns : goal.returns
returns c =
    no_place (program_there c.args.sections.now c.args.at) c.args.hull.now c.args.address c.requires (sym c.holds.ensures ∙ c.if-holds.false)
