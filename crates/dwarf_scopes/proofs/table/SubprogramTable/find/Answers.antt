use Rattle.std.proofs.Common.{ap, sym, ◌∙◌}
use Rattle.std.proofs.lemmas.Result.{IfOk-weaker}
use Rattle.dwarf_scopes.specs.Scopes.{scopes_at, inlined_at}
use Rattle.dwarf_scopes.specs.inner.Picks.{inlined_from}
use Rattle.dwarf_scopes.proofs.Filters.{found_kept}
use Rattle.dwarf_scopes.proofs.table.SubprogramTable.find.Goals as goal

pub returns-clause-subprogram : goal.returns-clause-subprogram
returns-clause-subprogram c =
    let same = c.in_ok-number.ensures ∙ sym (found_kept c.args.sections.now c.args.address c.args.units.now) in
    IfOk-weaker c.found.result _ _ (λ x is. is ∙ same) c.found.ensures.subprogram

pub returns-clause-inlined : goal.returns-clause-inlined
unfolding inlined_at scopes_at
returns-clause-inlined c =
    let same = c.in_ok-number.ensures ∙ sym (found_kept c.args.sections.now c.args.address c.args.units.now) in
    IfOk-weaker c.found.result _ _ (λ x is. is ∙ ap (inlined_from c.args.sections.now c.args.address) same) c.found.ensures.inlined
