use Rattle.std.proofs.Common.{◌-◌, length, sym, subst, ◌∙◌}
use Rattle.validate_body.specs.inner.Locals.{Splits}
use Rattle.validate_body.proofs.LocalsLaws.{local_at}
use Rattle.validate_body.proofs.locals.Locals.get.Goals as goal

pub returns : goal.returns
returns c =
    rw (← c.self.view_is)
    (c.type_of_group.ensures
    ∙ sym (local_at c.self.inside.params.now c.self.inside.groups.now c.args.x c.group_of-at.result c.if-index-count.false (subst (λ e. Splits e (c.args.x - length c.self.inside.params.now) c.group_of-at.result) (c.deref.ensures.value ∙ c.self.invariant) c.group_of-at.ensures)))
