use Rattle.std.proofs.Common.{◌∙◌, List, sym, ap, subst}
use Rattle.std.specs.Prelude.{slice_get}
use Rattle.dump_write.specs.Image.{DumpFrame}
use Rattle.machine_code.specs.declared.prepared.Prepared.{Prepared}
use Rattle.wasm_machine.specs.inner.Shown.{all_shown}
use Rattle.wasm_machine.specs.calls.Instances.{State, state, StandsAt}
use Rattle.wasm_machine.proofs.StandingLaws.{frames_at}
use Rattle.wasm_machine.proofs.instance.Instance.frame.Goals as goal

pub returns : goal.returns
returns c p d at =
    let i = c.self.inside in
    let s = state i.source.now i.prepared.value i.machine i.due i.ready i.entered i.steps i.since_copy i.last in
    ap (λ (xs : List DumpFrame). slice_get xs c.args.index) (sym (frames_at s p d c.self.invariant (subst (λ (t : State). StandsAt t p d) (sym c.self.view_is) at))) ∙ ap (λ (q : Prepared). slice_get (all_shown q i.machine) c.args.index) (sym c.deref-prepared.ensures) ∙ c.frame_at.ensures
