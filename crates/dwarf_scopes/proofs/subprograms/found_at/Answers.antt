use Rattle.std.proofs.Common.{ap, ◌∙◌}
use Rattle.std.proofs.lemmas.Result.{IfOk-weaker}
use Rattle.dwarf_scopes.specs.Scopes.{scopes_at, inlined_at}
use Rattle.dwarf_scopes.specs.inner.Picks.{inlined_from}
use Rattle.dwarf_scopes.proofs.subprograms.found_at.Goals as goal

pub returns-clause-subprogram : goal.returns-clause-subprogram
returns-clause-subprogram c = IfOk-weaker c.of.result _ _ (λ x is. is ∙ c.in_ok-subprogram.ensures) c.of.ensures.subprogram

pub returns-clause-inlined : goal.returns-clause-inlined
unfolding inlined_at scopes_at
returns-clause-inlined c =
    IfOk-weaker c.of.result _ _ (λ x is. is ∙ ap (inlined_from c.args.sections.now c.args.address) c.in_ok-subprogram.ensures) c.of.ensures.inlined
