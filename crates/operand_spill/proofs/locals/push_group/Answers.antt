use Rattle.std.proofs.Common.{◌∙◌}
use Rattle.operand_spill.proofs.Groups.{push_step}
use Rattle.operand_spill.proofs.locals.push_group.Goals as goal

pub loop-i-preserved : goal.loop-i-preserved
loop-i-preserved c = c.in_ok-push.ensures.ok ∙ push_step _ _ _ _ c.loop-i.invariant
