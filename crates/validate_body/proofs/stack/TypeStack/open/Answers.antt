use Rattle.std.proofs.Common.{sym, ◌∙◌, ap}
use Rattle.validate_body.specs.calls.Frames.{any_free}
use Rattle.validate_body.proofs.StackLaws.{opened_heights}
use Rattle.validate_body.proofs.stack.TypeStack.open.Goals as goal

pub invariant_of-self-2 : goal.invariant_of-self-2
invariant_of-self-2 c =
    opened_heights c.self.inside.types c.self.inside.controls c.push.new.self _ c.in_ok-push.ensures.pushed c.len.ensures (c.is_dead-within.ensures ∙ ap any_free (sym c.self.view_is)) c.self.invariant
