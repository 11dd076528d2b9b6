use Rattle.std.proofs.Common.{ap, ◌∙◌}
use Rattle.std.specs.Prelude.{Some}
use Rattle.rewrite_bodies.specs.calls.Facts.{is_local}
use Rattle.operand_spill.proofs.Exposings.{kept_one, dropped_one}
use Rattle.operand_spill.proofs.facts.unwritten.Goals.{then-not-is_written+in_ok-push, else-not-is_written}
use Rattle.operand_spill.proofs.facts.unwritten.Goals as goal

pub loop-found-preserved : goal.loop-found-preserved
loop-found-preserved c =
    elim c.if-not-is_written.branch [
      | then-not-is_written+in_ok-push w ↦
          kept_one (is_local (Some c.args.local)) c.args.items.now c.loop-found.found-index _ c.loop-found.left.items c.if-not-is_written.left.items c.is_written.result c.loop-found-test.true c.is_written.ensures w.if-not-is_written.true
          (ap (λ v. v.items) w.left-is ∙ w.in_ok-push.ensures.items) c.loop-found.invariant
      | else-not-is_written w ↦
          dropped_one (is_local (Some c.args.local)) c.args.items.now c.loop-found.found-index _ c.loop-found.left.items c.if-not-is_written.left.items c.is_written.result c.loop-found-test.true c.is_written.ensures w.if-not-is_written.false
          (ap (λ v. v.items) w.left-is) c.loop-found.invariant
    ]
