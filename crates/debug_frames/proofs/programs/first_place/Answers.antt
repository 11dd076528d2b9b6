use Rattle.debug_frames.proofs.StoreLaws.{element_stored}
use Rattle.debug_frames.proofs.programs.first_place.Goals as goal

pub stored_place-requires : goal.stored_place-requires
stored_place-requires c =
    element_stored c.args.sections.now c.args.programs.now c.loop-program.program-index c.program-item.result c.requires c.loop-program-test.true c.program-item.is
