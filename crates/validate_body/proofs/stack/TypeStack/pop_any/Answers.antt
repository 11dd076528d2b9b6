use Rattle.std.proofs.Common.{sym, ◌∙◌}
use Rattle.validate_body.proofs.StackLaws.{no_controls, below_free, below_shut, popped_heights, popped_is, none_popped}
use Rattle.validate_body.proofs.stack.TypeStack.pop_any.Goals as goal

pub returns-in-None : goal.returns-in-None
returns-in-None c = rw (← c.self.view_is) (no_controls c.self.inside.types c.self.inside.controls (sym c.peek.ensures ∙ c.in-None.is))

pub returns-then-control : goal.returns-then-control
returns-then-control c =
    rw (← c.self.view_is) (below_free c.self.inside.types c.self.inside.controls c.in-Some.c (sym c.peek.ensures ∙ c.in-Some.is) (sym c.len.ensures ∙ c.if-len-control.true) c.if-control.true)

pub returns-then-len-control : goal.returns-then-len-control
returns-then-len-control c =
    rw (← c.self.view_is) (below_shut c.self.inside.types c.self.inside.controls c.in-Some.c (sym c.peek.ensures ∙ c.in-Some.is) (sym c.len.ensures ∙ c.if-len-control.true) c.if-control.false)

pub invariant_of-self : goal.invariant_of-self
invariant_of-self c =
    absurd (none_popped c.self.inside.types c.self.inside.controls c.in-Some.c (sym c.peek.ensures ∙ c.in-Some.is) c.in-None-pop.ensures.0 (λ q. c.if-len-control.false (c.len.ensures ∙ q)) c.self.invariant)

pub returns-in-None-pop : goal.returns-in-None-pop
returns-in-None-pop c =
    absurd (none_popped c.self.inside.types c.self.inside.controls c.in-Some.c (sym c.peek.ensures ∙ c.in-Some.is) c.in-None-pop.ensures.0 (λ q. c.if-len-control.false (c.len.ensures ∙ q)) c.self.invariant)

pub invariant_of-self-2 : goal.invariant_of-self-2
invariant_of-self-2 c =
    popped_heights c.self.inside.types c.pop.new.self c.self.inside.controls c.in-Some.c c.in-Some-pop.u (sym c.peek.ensures ∙ c.in-Some.is) c.in-Some-pop.ensures (λ q. c.if-len-control.false (c.len.ensures ∙ q)) c.self.invariant

pub returns : goal.returns
returns c =
    rw (← c.self.view_is) (popped_is c.self.inside.types c.pop.new.self c.self.inside.controls c.in-Some.c c.in-Some-pop.u (sym c.peek.ensures ∙ c.in-Some.is) c.in-Some-pop.ensures (λ q. c.if-len-control.false (c.len.ensures ∙ q)) c.self.invariant)
