use Rattle.std.proofs.Common.{suc, sym, ap, subst, ◌∙◌}
use Rattle.rewrite_code.proofs.Loads.{when_ok}
use Rattle.operand_spill.specs.declared.labels.Label.TheVariants as labels
use Rattle.operand_spill.specs.calls.Walking.{opening}
use Rattle.operand_spill.specs.inner.Knowing.{Proceeds}
use Rattle.operand_spill.proofs.Knowing.{know_if}
use Rattle.operand_spill.proofs.places.open_if.Goals as goal

pub returns : goal.returns
returns c = λ C items whole pc at k b.
    when_ok (λ e. subst (λ w. Proceeds C items whole (suc pc) w) (sym (e ∙ ap (opening (labels.Block c.args.gives)) c.in_ok-perform.ensures)) (know_if C items whole pc c.args.walk.now at c.args.gives b k))
    c.open.result c.open.ensures
