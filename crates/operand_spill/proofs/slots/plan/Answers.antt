use Rattle.std.proofs.Common.{◌∙◌, subst}
use Rattle.operand_spill.specs.inner.Greatest.{IsGreatestUpTo}
use Rattle.operand_spill.proofs.Greatest.{fits_from}
use Rattle.operand_spill.proofs.Least.{plan_from}
use Rattle.operand_spill.proofs.slots.plan.Goals as goal

pub invariant_of-result : goal.invariant_of-result
invariant_of-result c =
    fits_from c.args.source.now c.parts-parts.result.now c.args.func c.len.result c.greatest_height-slots.result c.body_at-body.result.now c.in_ok-locals.locals (c.parts-parts.ensures.value ∙ c.module.ensures.value) c.module.ensures.limits c.module.ensures.heights c.body_at-body.ensures c.greatest_height-slots.ensures c.in_ok-locals.ensures

pub returns : goal.returns
returns c = λ p body tree ftype w same at.
    plan_from c.args.source.now c.parts-parts.result.now p c.args.func body c.body_at-body.result.now tree ftype c.greatest_height-slots.result c.in_ok-locals.locals same (c.parts-parts.ensures.value ∙ c.module.ensures.value) c.parts-parts.ensures.whole c.module.ensures.valid w at c.body_at-body.ensures
    (subst (λ n. IsGreatestUpTo c.args.source.now c.args.func n c.greatest_height-slots.result) c.len.ensures c.greatest_height-slots.ensures) c.in_ok-locals.ensures
