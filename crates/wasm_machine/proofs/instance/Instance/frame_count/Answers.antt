use Rattle.std.proofs.Common.{◌∙◌, sym, subst}
use Rattle.wasm_machine.specs.calls.Instances.{State, state, StandsAt}
use Rattle.wasm_machine.proofs.StandingLaws.{count_at}
use Rattle.wasm_machine.proofs.instance.Instance.frame_count.Goals as goal

pub returns-clause-stands : goal.returns-clause-stands
returns-clause-stands c p d at =
    let i = c.self.inside in
    let s = state i.source.now i.prepared.value i.machine i.due i.ready i.entered i.steps i.since_copy i.last in
    c.len.ensures ∙ count_at s p d (subst (λ (t : State). StandsAt t p d) (sym c.self.view_is) at)
