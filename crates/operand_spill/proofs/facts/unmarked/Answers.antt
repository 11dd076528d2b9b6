use Rattle.std.proofs.Common.{ap, ◌∙◌}
use Rattle.operand_spill.specs.inner.Exposing.{held}
use Rattle.operand_spill.proofs.Exposings.{kept_one, dropped_one}
use Rattle.operand_spill.proofs.facts.unmarked.Goals.{then-not-is_marked+in_ok-push, else-not-is_marked}
use Rattle.operand_spill.proofs.facts.unmarked.Goals as goal

pub loop-found-preserved : goal.loop-found-preserved
loop-found-preserved c =
    elim c.if-not-is_marked.branch [
      | then-not-is_marked+in_ok-push w ↦
          kept_one (held c.args.marks.now) c.args.items.now c.loop-found.found-index _ c.loop-found.left.items c.if-not-is_marked.left.items c.is_marked.result c.loop-found-test.true c.is_marked.ensures w.if-not-is_marked.true
          (ap (λ v. v.items) w.left-is ∙ w.in_ok-push.ensures.items) c.loop-found.invariant
      | else-not-is_marked w ↦
          dropped_one (held c.args.marks.now) c.args.items.now c.loop-found.found-index _ c.loop-found.left.items c.if-not-is_marked.left.items c.is_marked.result c.loop-found-test.true c.is_marked.ensures w.if-not-is_marked.false
          (ap (λ v. v.items) w.left-is) c.loop-found.invariant
    ]
