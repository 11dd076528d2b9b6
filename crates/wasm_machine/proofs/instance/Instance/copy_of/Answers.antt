use Rattle.std.proofs.Common.{sym, subst}
use Rattle.wasm_machine.specs.calls.Instances.{state, SoundState}
use Rattle.wasm_machine.proofs.StandingLaws.{copied_sound, copy_is}
use Rattle.wasm_machine.proofs.instance.Instance.copy_of.Goals as goal

pub invariant_of-result : goal.invariant_of-result
invariant_of-result c =
    let i = c.self.inside in
    let s = state i.source.now i.prepared.value i.machine i.due i.ready i.entered i.steps i.since_copy i.last in
    subst SoundState (sym (copy_is i.source.now i.prepared.value c.in-Ok-clone.prepared.value i.machine c.in-Ok-copy_of.machine i.due i.ready i.entered i.steps i.since_copy i.last c.in-Ok.last c.in-Ok-clone.ensures.cases c.in-Ok-copy_of.ensures c.in-Ok.ensures))
    (copied_sound s c.self.invariant)
