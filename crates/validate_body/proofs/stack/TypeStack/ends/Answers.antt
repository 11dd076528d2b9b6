use Rattle.std.proofs.Common.{sym, ◌∙◌}
use Rattle.validate_body.proofs.StackLaws.{ends_are, ends_none}
use Rattle.validate_body.proofs.stack.TypeStack.ends.Goals as goal

pub returns-in-Some : goal.returns-in-Some
returns-in-Some c = rw (← c.self.view_is) (sym (ends_are c.self.inside.types c.self.inside.controls c.in-Some.control (sym c.peek.ensures ∙ c.in-Some.is)))

pub returns-in-None : goal.returns-in-None
returns-in-None c = rw (← c.self.view_is) (sym (ends_none c.self.inside.types c.self.inside.controls (sym c.peek.ensures ∙ c.in-None.is)))
