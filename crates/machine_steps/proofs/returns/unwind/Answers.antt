use Rattle.std.proofs.Common.{◌∙◌, ap, sym, subst}
use Rattle.std.specs.Prelude.{slice_set}
use Rattle.machine_steps.specs.inner.Moves.{Carried}
use Rattle.machine_steps.proofs.ReturnLaws.{over_last}
use Rattle.machine_steps.proofs.returns.unwind.Goals as goal

pub returns-in-Some : goal.returns-in-Some
returns-in-Some c = λ kept over below e k h.
    let s = subst (λ b. Carried b kept) c.if-carries.true k in
    c.set_top.ensures ∙ ap (λ l. slice_set l 0 c.in-Some.v) c.keep_above.ensures ∙ over_last c.in-Some.v s.0 c.args.values.now kept over below c.args.height e s.1 h (sym c.in-Some.is ∙ c.peek.ensures)
