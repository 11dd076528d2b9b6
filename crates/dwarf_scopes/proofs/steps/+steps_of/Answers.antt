use Rattle.std.proofs.Common.{ap, ◌∙◌}
use Rattle.std.proofs.lemmas.Result.{IfOk-weaker}
use Rattle.dwarf_scopes.specs.calls.Steps.{merged}
use Rattle.dwarf_scopes.proofs.StepLaws.{are_in_parts}
use Rattle.dwarf_scopes.proofs.steps.+steps_of.Goals as goal

pub returns-in_ok-back-in_default : goal.returns-in_ok-back-in_default
returns-in_ok-back-in_default t c =
    IfOk-weaker c.merged.result _ _
    (λ steps is. are_in_parts c.args.ranges.now c.split_at.result.0.now c.split_at.result.1.now c.in_ok-front-in_default.front.items c.in_ok-back-in_default.back.items steps.items
    c.split_at.ensures.by_index.0 c.in_ok-front-in_default.ensures c.in_ok-back-in_default.ensures
    (is ∙ ap (λ l. merged l c.as_slice-in_default.result.now) c.as_slice.ensures.value ∙ ap (merged c.in_ok-front-in_default.front.items) c.as_slice-in_default.ensures.value))
    c.merged.ensures
