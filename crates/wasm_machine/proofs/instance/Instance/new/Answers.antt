use Rattle.std.proofs.Common.{◌≡◌, ◌∙◌, refl, sym, ap, subst, arith}
use Rattle.std.specs.Prelude.{Ok, None}
use Rattle.wasm_syntax.specs.declared.module.ModuleParts.{ModuleParts as Module}
use Rattle.wasm_syntax.specs.Module.{IsModule}
use Rattle.wasm_syntax.specs.Valid.{Valid}
use Rattle.wasm_syntax.specs.Sizes.{WithinLimits}
use Rattle.wasm_syntax.specs.Run.{cause_of_segments, start_world}
use Rattle.wasm_machine.specs.calls.Starts.{Starts}
use Rattle.wasm_machine.proofs.InstanceLaws.{new_sound, new_world, new_fits}
use Rattle.wasm_machine.proofs.instance.Instance.new.Goals as goal

pub invariant_of-result : goal.invariant_of-result
invariant_of-result c =
    let m = c.module-whole.result.now in
    let own : c.parts-parts.result.now ≡ m = c.parts-parts.ensures.value in
    let same : m ≡ c.args.source.now = c.module-whole.ensures.value in
    let limits = subst WithinLimits (sym same) c.module-whole.ensures.limits in
    let prepared = c.in-Ok.prepared.value in
    let started = subst (λ (x : Module). Starts (Ok c.in_ok-started.started) x) own c.in_ok-started.ensures in
    let sound = new_sound m prepared (subst IsModule own c.parts-parts.ensures.whole) (subst Valid (sym same) c.module-whole.ensures.valid) limits.short.functions (λ p e is. c.in-Ok.ensures p e is) in
    record {
      sound = sound;
      start = λ f e. ap (λ (x : Module). x.start) (sym own) ∙ e;
      fits = λ e. new_fits m prepared c.machine_of.result sound (new_world m c.in_ok-started.started c.machine_of.result started.1 c.machine_of.ensures.shared c.machine_of.ensures.table);
      since_copy = omega arith;
      stopped = λ l e. absurd cc;
    }

pub returns-in-Ok : goal.returns-in-Ok
returns-in-Ok c =
    let m = c.module-whole.result.now in
    let own : c.parts-parts.result.now ≡ m = c.parts-parts.ensures.value in
    let same : m ≡ c.args.source.now = c.module-whole.ensures.value in
    let started = subst (λ (x : Module). Starts (Ok c.in_ok-started.started) x) own c.in_ok-started.ensures in (
      subst (λ (x : Module). cause_of_segments x ≡ None) same started.0,
      record {
        module_is = same;
        world = λ replies. new_world m c.in_ok-started.started c.machine_of.result started.1 c.machine_of.ensures.shared c.machine_of.ensures.table replies ∙ ap (λ (x : Module). start_world x replies) same;
        frames = c.machine_of.ensures.frames;
        due = ap (λ (x : Module). x.start) (own ∙ same);
        ready = refl;
        entered = refl;
        steps = refl;
        since_copy = refl;
        last = refl;
      },
    )
