use Rattle.std.proofs.Common.{◌∙◌}
use Rattle.debug_frames.proofs.StandingLaws.{unit_kept}
use Rattle.debug_frames.proofs.unreadable.push_unreadable.Goals as goal

pub push_unit-requires : goal.push_unit-requires
push_unit-requires c =
    unit_kept c.args.information.now.sections c.args.information.now.units c.as_slice-answer-items.result.now c.loop-answer.answer-index c.answer-item.result
    (c.as_slice-answer-items.ensures ∙ c.units.ensures) c.loop-answer-test.true c.answer-item.is
