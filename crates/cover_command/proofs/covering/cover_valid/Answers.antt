use Rattle.std.proofs.Common.{[], ◌∙◌, subst}
use Rattle.wasm_syntax.specs.declared.module.ModuleParts.{ModuleParts as Module}
use Rattle.machine_steps.specs.calls.Tallies.{Counted}
use Rattle.cover_command.proofs.covering.cover_valid.Goals as goal

pub cover_counted-requires-clause-counted : goal.cover_counted-requires-clause-counted
cover_counted-requires-clause-counted g c = subst (λ (k : Module). Counted k c.in_ok-tally.tally []) (c.parts.ensures.value ∙ c.module.ensures.value) c.in_ok-tally.ensures
