use Rattle.std.proofs.Common.{sym, subst}
use Rattle.run_session.specs.Showing.{showing}
use Rattle.run_session.specs.calls.Told.{IsShown}
use Rattle.run_session.proofs.Endings.{is_finished, is_trapped}
use Rattle.run_session.proofs.shown.shown_by.Goals as goal

pub returns-in-Finished-clause-shown : goal.returns-in-Finished-clause-shown
returns-in-Finished-clause-shown c p used_up o has some delivery memory name handed =
    subst (λ x. IsShown (showing x delivery) memory name c.at_end.result) (sym (is_finished p used_up c.args.answer.now c.in-Finished.value o c.in-Finished.is has)) (c.at_end.ensures.shown c.in-Finished.value delivery memory name handed)

pub returns-in-Trapped-clause-shown : goal.returns-in-Trapped-clause-shown
returns-in-Trapped-clause-shown c p used_up o has some delivery memory name handed =
    subst (λ x. IsShown (showing x delivery) memory name c.at_trap.result) (sym (is_trapped p used_up c.args.answer.now c.in-Trapped.kind o c.in-Trapped.is has)) (c.at_trap.ensures.shown delivery memory name handed)
