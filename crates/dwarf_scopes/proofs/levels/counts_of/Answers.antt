use Rattle.std.proofs.Common.{◌∙◌}
use Rattle.std.proofs.lemmas.Result.{IfOk-weaker}
use Rattle.dwarf_scopes.proofs.levels.counts_of.Goals as goal

pub returns : goal.returns
returns c = IfOk-weaker c.narrowed-narrow.result _ _ (λ xs is. is ∙ c.as_slice.ensures ∙ c.in_ok-counts.ensures) c.narrowed-narrow.ensures
