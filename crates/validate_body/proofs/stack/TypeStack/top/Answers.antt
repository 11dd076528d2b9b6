use Rattle.std.proofs.Common.{sym, ◌∙◌}
use Rattle.validate_body.proofs.StackLaws.{top_is, top_none}
use Rattle.validate_body.proofs.stack.TypeStack.top.Goals as goal

pub returns-in-Some : goal.returns-in-Some
returns-in-Some c = rw (← c.self.view_is) (top_is c.self.inside.types c.self.inside.controls c.in-Some.t c.self.invariant (sym c.peek.ensures ∙ c.in-Some.is))

pub returns-in-None : goal.returns-in-None
returns-in-None c = rw (← c.self.view_is) (top_none c.self.inside.types c.self.inside.controls c.self.invariant (sym c.peek.ensures ∙ c.in-None.is))
