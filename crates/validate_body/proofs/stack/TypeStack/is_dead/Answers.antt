use Rattle.std.proofs.Common.{sym, ◌∙◌}
use Rattle.validate_body.proofs.StackLaws.{dead_top, dead_within, dead_none}
use Rattle.validate_body.proofs.stack.TypeStack.is_dead.Goals as goal

pub returns-then-control : goal.returns-then-control
returns-then-control c = rw (← c.self.view_is) (dead_top c.self.inside.types c.self.inside.controls c.in-Some.control (sym c.peek.ensures ∙ c.in-Some.is) c.self.invariant c.if-control.true)

pub returns-else-control : goal.returns-else-control
returns-else-control c = rw (← c.self.view_is) (dead_within c.self.inside.types c.self.inside.controls c.in-Some.control (sym c.peek.ensures ∙ c.in-Some.is) c.self.invariant c.if-control.false)

pub returns-in-None : goal.returns-in-None
returns-in-None c = rw (← c.self.view_is) (sym (dead_none c.self.inside.types c.self.inside.controls (sym c.peek.ensures ∙ c.in-None.is)))
