use Rattle.std.proofs.Common.{sym, ap, ◌∙◌}
use Rattle.std.specs.Prelude.{nat_eq}
use Rattle.validate_body.proofs.StackLaws.{gives_free, gives_not_free, gives_none}
use Rattle.validate_body.proofs.stack.TypeStack.gives_any.Goals as goal

pub returns-then-control : goal.returns-then-control
returns-then-control c =
    rw (← c.self.view_is) (ap (λ n. nat_eq n c.in-Some.control.height) c.len.ensures ∙ gives_free c.self.inside.types c.self.inside.controls c.in-Some.control (sym c.peek.ensures ∙ c.in-Some.is) c.if-control.true c.self.invariant)

pub returns-else-control : goal.returns-else-control
returns-else-control c = rw (← c.self.view_is) (gives_not_free c.self.inside.types c.self.inside.controls c.in-Some.control (sym c.peek.ensures ∙ c.in-Some.is) c.if-control.false)

pub returns-in-None : goal.returns-in-None
returns-in-None c = rw (← c.self.view_is) (gives_none c.self.inside.types c.self.inside.controls (sym c.peek.ensures ∙ c.in-None.is))
