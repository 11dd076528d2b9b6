use Rattle.std.proofs.Common.{sym, ◌∙◌}
use Rattle.std.proofs.lemmas.Result.{IfOk-weaker}
use Rattle.dwarf_scopes.proofs.LevelLaws.{with_span, without_span}
use Rattle.dwarf_scopes.proofs.levels.with_entry.Goals as goal

pub returns-in-Some : goal.returns-in-Some
returns-in-Some c = IfOk-weaker c.with.result _ _ (λ more joins. with_span c.args.entry.now c.in-Some.span c.args.part more (sym c.span_of.ensures ∙ c.in-Some.is) joins) c.with.ensures

pub returns-in-None : goal.returns-in-None
returns-in-None c = without_span c.args.entry.now c.args.part (sym c.span_of.ensures ∙ c.in-None.is)
