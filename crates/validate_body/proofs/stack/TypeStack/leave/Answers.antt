use Rattle.std.proofs.Common.{sym, ◌∙◌}
use Rattle.validate_body.proofs.StackLaws.{left_none, left_wrong}
use Rattle.validate_body.proofs.stack.TypeStack.leave.Goals as goal

pub returns-in-None : goal.returns-in-None
returns-in-None c = rw (← c.self.view_is) (left_none c.self.inside.types c.self.inside.controls (sym c.peek.ensures ∙ c.in-None.is))

pub returns-then-len-control : goal.returns-then-len-control
returns-then-len-control c =
    rw (← c.self.view_is) (left_wrong c.self.inside.types c.self.inside.controls c.in-Some.c (sym c.peek.ensures ∙ c.in-Some.is) (λ q. c.if-len-control.true (c.len.ensures ∙ q)) c.self.invariant)
