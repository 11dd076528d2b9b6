use Rattle.std.proofs.Common.{ap, ap₂, ◌∙◌}
use Rattle.rewrite_bodies.specs.calls.Slots.{local_written}
use Rattle.operand_spill.specs.inner.Exposing.{held}
use Rattle.operand_spill.specs.inner.Deriving.{here, none_where, with_local}
use Rattle.operand_spill.proofs.derived.Recent.perform.Goals as goal

pub returns : goal.returns
returns c =
    ap₂ here
    (c.in_ok-add_written.ensures ∙ ap (with_local (local_written c.args.instruction)) (c.empty_if.ensures ∙ ap (λ b. none_where b (held c.args.self.now.written)) c.can_leave.ensures))
    c.behind-self.ensures
