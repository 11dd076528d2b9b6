use Rattle.std.proofs.Common.{◌≡◌, ◌+◌, ◌-◌, ◌∙◌, [], refl, sym, ap, subst, arith}
use Rattle.std.specs.Prelude.{Bool, None, false}
use Rattle.wasm_syntax.specs.Run.{engine}
use Rattle.machine_code.specs.declared.prepared.Prepared.{Prepared}
use Rattle.machine_hosted.specs.calls.Settings.{HostServes, Takes, world_of}
use Rattle.machine_hosted.specs.calls.Invocations.{InvocationCameWith, invoking}
use Rattle.machine_hosted.specs.calls.Watching.{Watched, invocation_placing}
use Rattle.machine_hosted.proofs.WatchLaws.{unseen}
use Rattle.machine_hosted.proofs.WatchJoins.{none_placed}
use Rattle.wasm_machine.specs.calls.Watching.{Seen}
use Rattle.wasm_machine.specs.calls.Instances.{State, state, Invoked, course_from, last_of}
use Rattle.machine_hosted.specs.declared.answer.RunEnd.TheVariants.{NoMemory}
use Rattle.machine_hosted.proofs.ModuleLaws.{function_there, takes_start}
use Rattle.wasm_machine.proofs.StoppedLaws.{stops}
use Rattle.wasm_machine.proofs.WantLaws.{not_begun, start_there}
use Rattle.wasm_machine.proofs.instance.Instance.call.Goals as goal

pub watch_invocation-run-requires-clause-fits : goal.watch_invocation-run-requires-clause-fits
watch_invocation-run-requires-clause-fits g c = c.self.invariant.fits (ap (λ (s : State). s.ready) c.self.view_is ∙ c.requires.ready)

pub watch_invocation-run-requires-clause-start : goal.watch_invocation-run-requires-clause-start
watch_invocation-run-requires-clause-start g c = takes_start c.self.inside.source.now c.self.inside.due c.self.invariant.sound.valid c.self.invariant.start

pub watch_invocation-run-requires-clause-entry : goal.watch_invocation-run-requires-clause-entry
watch_invocation-run-requires-clause-entry g c = subst (λ (s : State). Takes s.module_ c.args.function c.args.args.now) (sym c.self.view_is) c.requires.takes

pub watch_invocation-run-requires-clause-host : goal.watch_invocation-run-requires-clause-host
watch_invocation-run-requires-clause-host g c = subst (λ (s : State). HostServes (g.H.HostSide.origin c.args.hosts.now) (g.H.HostSide.serving c.args.hosts.now) s.module_) (sym c.self.view_is) c.requires.host

-- no step is made where there is no memory for the arguments
pub returns-in-Err-clause-came : goal.returns-in-Err-clause-came
returns-in-Err-clause-came g c = λ p is.
    let i = c.self.inside in
    let m = i.source.now in
    let collecting = g.H.HostSide.collecting c.args.hosts.now in
    let up = g.H.HostSide.used_up c.args.hosts.now in
    let calls = g.H.HostSide.calls c.args.hosts.now in
    let sound = c.self.invariant.sound in
    let same : p.module_ ≡ m = is.of_module ∙ ap (λ (s : State). s.module_) (sym c.self.view_is) in
    let takes = subst (λ (s : State). Takes s.module_ c.args.function c.args.args.now) (sym c.self.view_is) c.requires.takes in
    subst (λ (s : State). Invoked p collecting c.args.depth up c.args.function c.args.args.now c.args.fuel s (state m i.prepared.value i.machine None false c.is_none-self-inside.result i.steps i.since_copy None) NoMemory calls calls) c.self.view_is
    (record {
      made = 0;
      steps = omega arith;
      since_copy = omega arith;
      stopped = λ l there. absurd cc;
      came = not_begun p i.prepared.value.codes.items up i.machine c.args.fuel c.is_none-self-inside.result (engine p collecting c.args.depth) c.args.function c.args.args.now i.due
          (start_there p m i.prepared.value i.due sound same is.writes_out (takes_start m i.due sound.valid c.self.invariant.start))
          (function_there p m i.prepared.value c.args.function c.args.args.now sound same is.writes_out takes) calls;
    })

pub returns-clause-came : goal.returns-clause-came
returns-clause-came g c = λ p is.
    let i = c.self.inside in
    let m = i.source.now in
    let r = c.watch_invocation-run.result in
    let after = c.watch_invocation-run.new.m in
    let collecting = g.H.HostSide.collecting c.args.hosts.now in
    let up = g.H.HostSide.used_up c.watch_invocation-run.new.hosts in
    let old = g.H.HostSide.calls c.args.hosts.now in
    let new = g.H.HostSide.calls c.watch_invocation-run.new.hosts in
    let kept = c.kept.ensures ∙ ap (λ (b : Bool). last_of c.args.function c.in-Ok.copy c.args.depth b r.answer) c.collects-collecting.ensures in
    let came = subst (λ (q : Prepared). InvocationCameWith p q.codes.items up (invoking (engine p collecting c.args.depth) i.due c.args.function c.args.args.now (world_of i.machine [])) c.args.fuel r.answer r.steps r.ready r.entered after old new) c.deref-prepared.ensures
    (c.watch_invocation-run.ensures.came p (is.of_module ∙ ap (λ (s : State). s.module_) (sym c.self.view_is)) is.writes_out) in
    subst (λ (s : State). Invoked p collecting c.args.depth up c.args.function c.args.args.now c.args.fuel s (state m i.prepared.value after None r.ready r.entered (i.steps + r.steps) (i.since_copy + r.steps) c.kept.result) r.answer old new) c.self.view_is
    (record {
      made = r.steps;
      steps = refl;
      since_copy = refl;
      came = came;
      stopped = stops p i.prepared.value.codes.items m c.args.function c.args.args.now c.args.depth collecting (course_from (state m i.prepared.value i.machine i.due i.ready i.entered i.steps i.since_copy i.last) c.args.fuel r.steps came.asked) r.ready r.entered after
          up c.in-Ok.copy r.answer c.kept.result c.self.invariant.start (c.self.invariant.fits (ap (λ (s : State). s.ready) c.self.view_is ∙ c.requires.ready))
          (subst (λ (s : State). Takes s.module_ c.args.function c.args.args.now) (sym c.self.view_is) c.requires.takes) c.in-Ok.ensures kept came.came;
    })

-- nothing is seen where there is no memory for the arguments
pub returns-in-Err-clause-watched : goal.returns-in-Err-clause-watched
returns-in-Err-clause-watched g c = λ p is.
    let i = c.self.inside in
    let m = i.source.now in
    let collecting = g.H.HostSide.collecting c.args.hosts.now in
    let calls = g.H.HostSide.calls c.args.hosts.now in
    let M = engine p collecting c.args.depth in
    let placing = invocation_placing M i.due c.args.function c.args.args.now (world_of i.machine []) in
    let none : 0 ≡ i.steps - i.steps = omega arith in
    subst (λ (s : State). Seen g.W.Watch.Saw p collecting c.args.depth c.args.function c.args.args.now c.args.fuel s (state m i.prepared.value i.machine None false c.is_none-self-inside.result i.steps i.since_copy None) NoMemory c.args.watch.now c.args.watch.now calls calls) c.self.view_is
    (subst (λ n. Watched g.W.Watch.Saw p.module_ placing c.args.fuel NoMemory n c.args.watch.now c.args.watch.now calls calls) none
    (unseen g.W.Watch.Saw p.module_ placing c.args.fuel c.args.watch.now calls (none_placed g.W.Watch.Saw p.module_ M i.machine c.args.function c.args.args.now i.due)))

pub returns-clause-watched : goal.returns-clause-watched
returns-clause-watched g c = λ p is.
    let i = c.self.inside in
    let r = c.watch_invocation-run.result in
    let collecting = g.H.HostSide.collecting c.args.hosts.now in
    let old = g.H.HostSide.calls c.args.hosts.now in
    let new = g.H.HostSide.calls c.watch_invocation-run.new.hosts in
    let M = engine p collecting c.args.depth in
    let placing = invocation_placing M i.due c.args.function c.args.args.now (world_of i.machine []) in
    let all : r.steps ≡ i.steps + r.steps - i.steps = omega arith in
    subst (λ (s : State). Seen g.W.Watch.Saw p collecting c.args.depth c.args.function c.args.args.now c.args.fuel s (state i.source.now i.prepared.value c.watch_invocation-run.new.m None r.ready r.entered (i.steps + r.steps) (i.since_copy + r.steps) c.kept.result) r.answer c.args.watch.now c.watch_invocation-run.new.watch old new) c.self.view_is
    (subst (λ n. Watched g.W.Watch.Saw p.module_ placing c.args.fuel r.answer n c.args.watch.now c.watch_invocation-run.new.watch old new) all
    (c.watch_invocation-run.ensures.watched p (is.of_module ∙ ap (λ (s : State). s.module_) (sym c.self.view_is)) is.writes_out))

pub invariant_of-self-2 : goal.invariant_of-self-2
invariant_of-self-2 g c =
    let i = c.self.inside in
    let m = i.source.now in
    let r = c.watch_invocation-run.result in
    let after = c.watch_invocation-run.new.m in
    let collecting = g.H.HostSide.collecting c.args.hosts.now in
    let up = g.H.HostSide.used_up c.watch_invocation-run.new.hosts in
    let old = g.H.HostSide.calls c.args.hosts.now in
    let new = g.H.HostSide.calls c.watch_invocation-run.new.hosts in
    let kept = c.kept.ensures ∙ ap (λ (b : Bool). last_of c.args.function c.in-Ok.copy c.args.depth b r.answer) c.collects-collecting.ensures in
    record {
      sound = c.self.invariant.sound;
      start = λ f e. absurd cc;
      fits = c.watch_invocation-run.ensures.fits;
      since_copy = let few = c.self.invariant.since_copy in omega (arith, few);
      stopped = λ l there p is.
          let came = subst (λ (q : Prepared). InvocationCameWith p q.codes.items up (invoking (engine p collecting c.args.depth) i.due c.args.function c.args.args.now (world_of i.machine [])) c.args.fuel r.answer r.steps r.ready r.entered after old new) c.deref-prepared.ensures
          (c.watch_invocation-run.ensures.came p is.of_module is.writes_out) in
          let course = course_from (state m i.prepared.value i.machine i.due i.ready i.entered i.steps i.since_copy i.last) c.args.fuel r.steps came.asked in (
            course,
            stops p i.prepared.value.codes.items m c.args.function c.args.args.now c.args.depth collecting course r.ready r.entered after
                up c.in-Ok.copy r.answer c.kept.result c.self.invariant.start (c.self.invariant.fits (ap (λ (s : State). s.ready) c.self.view_is ∙ c.requires.ready))
                (subst (λ (s : State). Takes s.module_ c.args.function c.args.args.now) (sym c.self.view_is) c.requires.takes) c.in-Ok.ensures kept came.came l there,
          );
    }
