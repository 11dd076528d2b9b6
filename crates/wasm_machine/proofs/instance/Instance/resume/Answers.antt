use Rattle.std.proofs.Common.{◌≡◌, ◌∙◌, List, sym, subst, arith}
use Rattle.std.specs.Prelude.{Some}
use Rattle.wasm_syntax.specs.declared.value.Value.{Value}
use Rattle.machine_code.specs.declared.prepared.Prepared.{Prepared}
use Rattle.machine_hosted.specs.calls.Courses.{longer, Followed}
use Rattle.machine_hosted.specs.declared.answer.RunEnd.TheVariants.{FuelSpent}
use Rattle.wasm_machine.specs.calls.Instances.{State, state, IsOf, IsSpent, StoppedBy, Resumed}
use Rattle.wasm_machine.proofs.StoppedLaws.{spent_by, goes_on, resumed, behind}
use Rattle.wasm_machine.proofs.instance.Instance.resume.Goals as goal

pub resume_invocation-rest-requires-clause-stopped : goal.resume_invocation-rest-requires-clause-stopped
resume_invocation-rest-requires-clause-stopped g c = λ p e is.
    let i = c.self.inside in
    let s = state i.source.now i.prepared.value i.machine i.due i.ready i.entered i.steps i.since_copy i.last in
    let collecting = g.H.HostSide.collecting c.args.hosts.now in
    let spent = subst (λ (t : State). IsSpent t c.args.depth collecting) (sym c.self.view_is) c.requires.spent in
    let last = c.in-Some.last in
    let there : c.self.inside.last ≡ Some c.in-Some.last = sym c.take.ensures.value ∙ c.in-Some.is in
    let x = c.self.invariant.stopped last there p (record { of_module = e; writes_out = is }) in (
      x.0,
      i.ready,
      subst (λ (q : Prepared). Followed p q.codes.items collecting c.args.depth last.entry c.as_slice-args.result.now i.source.now x.0 FuelSpent i.ready i.entered i.machine) (sym c.deref-prepared.ensures)
          (subst (λ (vs : List Value). Followed p i.prepared.value.codes.items collecting c.args.depth last.entry vs i.source.now x.0 FuelSpent i.ready i.entered i.machine) (sym c.as_slice-args.ensures)
          (spent_by s c.args.depth collecting spent last there p x.0 x.1)),
    )

pub invariant_of-self : goal.invariant_of-self
invariant_of-self g c =
    let i = c.self.inside in
    let s = state i.source.now i.prepared.value i.machine i.due i.ready i.entered i.steps i.since_copy i.last in
    let collecting = g.H.HostSide.collecting c.args.hosts.now in
    let spent = subst (λ (t : State). IsSpent t c.args.depth collecting) (sym c.self.view_is) c.requires.spent in
    let last = c.in-Some.last in
    let there : c.self.inside.last ≡ Some c.in-Some.last = sym c.take.ensures.value ∙ c.in-Some.is in
    let rest = c.resume_invocation-rest.result in
    let after = c.resume_invocation-rest.new.m in
    let up = g.H.HostSide.used_up c.resume_invocation-rest.new.hosts in
    let old = g.H.HostSide.calls c.args.hosts.now in
    let new = g.H.HostSide.calls c.resume_invocation-rest.new.hosts in
    record {
      sound = c.self.invariant.sound;
      start = c.self.invariant.start;
      fits = c.resume_invocation-rest.ensures.fits;
      since_copy = let few = c.self.invariant.since_copy in omega (arith, few);
      stopped = λ l kept p is.
          let x = c.self.invariant.stopped last there p (record { of_module = is.of_module; writes_out = is.writes_out }) in
          let r = resumed s c.args.depth collecting spent last there p up c.args.fuel rest after c.kept.result old new c.kept.ensures
          (goes_on p i.prepared.value c.deref-prepared.result.now last.args c.as_slice-args.result.now collecting c.args.depth last.entry i.source.now i.ready i.entered i.machine up c.args.fuel rest after old new c.deref-prepared.ensures c.as_slice-args.ensures
          (λ course f. c.resume_invocation-rest.ensures.came p course i.ready is.of_module is.writes_out f)) last x.0 there x.1 in
          (longer x.0 c.args.fuel r.made r.asked, r.stopped l kept);
    }

pub returns-clause-came : goal.returns-clause-came
returns-clause-came g c = λ p l course is kept by.
    let i = c.self.inside in
    let s = state i.source.now i.prepared.value i.machine i.due i.ready i.entered i.steps i.since_copy i.last in
    let collecting = g.H.HostSide.collecting c.args.hosts.now in
    let spent = subst (λ (t : State). IsSpent t c.args.depth collecting) (sym c.self.view_is) c.requires.spent in
    let last = c.in-Some.last in
    let there : c.self.inside.last ≡ Some c.in-Some.last = sym c.take.ensures.value ∙ c.in-Some.is in
    let rest = c.resume_invocation-rest.result in
    let after = c.resume_invocation-rest.new.m in
    let up = g.H.HostSide.used_up c.resume_invocation-rest.new.hosts in
    let old = g.H.HostSide.calls c.args.hosts.now in
    let new = g.H.HostSide.calls c.resume_invocation-rest.new.hosts in
    subst (λ (t : State). IsOf t p → t.last ≡ Some l → StoppedBy t l p course → Resumed p up l course c.args.fuel t (behind s c.args.depth collecting spent last there p up c.args.fuel rest after c.kept.result old new) rest.answer old new) c.self.view_is
    (λ is kept by.
    resumed s c.args.depth collecting spent last there p up c.args.fuel rest after c.kept.result old new c.kept.ensures
    (goes_on p i.prepared.value c.deref-prepared.result.now last.args c.as_slice-args.result.now collecting c.args.depth last.entry i.source.now i.ready i.entered i.machine up c.args.fuel rest after old new c.deref-prepared.ensures c.as_slice-args.ensures
    (λ course f. c.resume_invocation-rest.ensures.came p course i.ready is.of_module is.writes_out f)) l course kept by) is kept by
