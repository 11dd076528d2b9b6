use Rattle.std.proofs.Common.{subst, ◌∙◌}
use Rattle.debug_frames.specs.Programs.{program_there}
use Rattle.debug_frames.specs.inner.Stores.{Serves}
use Rattle.debug_frames.proofs.StoreLaws.{whole_place, unreadable_place}
use Rattle.debug_frames.proofs.stored.stored_place.Goals as goal

pub returns-in-Whole : goal.returns-in-Whole
returns-in-Whole c =
    let p = program_there c.args.sections.now c.args.at in
    c.place_held.ensures ∙ whole_place p c.in-Whole.held c.args.address (subst (Serves p) c.in-Whole.is c.requires)

pub returns-in-Unreadable : goal.returns-in-Unreadable
returns-in-Unreadable c =
    let p = program_there c.args.sections.now c.args.at in
    unreadable_place p c.args.address (subst (Serves p) c.in-Unreadable.is c.requires)

pub place_within-requires : goal.place_within-requires
place_within-requires c = subst (Serves (program_there c.args.sections.now c.args.at)) c.in-Bounded.is c.requires
