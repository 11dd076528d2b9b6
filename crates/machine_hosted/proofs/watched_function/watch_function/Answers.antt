use Rattle.std.proofs.Common.{◌≡◌, [], refl, sym, ap, subst, ◌∙◌}
use Rattle.std.specs.Prelude.{Some, slice_get}
use Rattle.wasm_syntax.specs.declared.parts.FuncType.{FuncType}
use Rattle.wasm_syntax.specs.declared.module.ModuleParts.{ModuleParts as Module}
use Rattle.wasm_syntax.specs.Module.{type_at}
use Rattle.wasm_syntax.specs.Machine.{host_call}
use Rattle.wasm_syntax.specs.Run.{engine}
use Rattle.machine_hosted.specs.calls.Safe.{WorldFits}
use Rattle.machine_hosted.specs.calls.Settings.{world_of}
use Rattle.machine_hosted.specs.inner.Alone.{alone}
use Rattle.machine_hosted.specs.calls.Answers.{function_going}
use Rattle.machine_hosted.specs.calls.Watching.{function_placing}
use Rattle.machine_hosted.proofs.WatchLaws.{alone_watched}
use Rattle.machine_hosted.proofs.WorldLaws.{shares_own, each_fits}
use Rattle.machine_hosted.proofs.ModuleLaws.{program_of, valid_program, few_results, import_type}
use Rattle.machine_hosted.proofs.FrameLaws.{within_fuel, fits_then}
use Rattle.machine_hosted.proofs.DefinedLaws.{by_same, same_alone, same_alone_places}
use Rattle.machine_hosted.proofs.watched_function.watch_function.Goals as goal

pub call_alone-requires-clause-there : goal.call_alone-requires-clause-there
call_alone-requires-clause-there g c =
    c.requires.host.knows _ _ (ap (λ (x : Module). slice_get x.imports c.args.function) (sym c.parts-source.ensures.value) ∙ sym c.in-Some-Some.ensures.value)

pub call_alone-requires-clause-served : goal.call_alone-requires-clause-served
call_alone-requires-clause-served g c =
    let m = c.args.runner.now.source.now in
    let f = c.args.function in
    let at : slice_get m.imports f ≡ Some c.in-Some-Some.import.now = ap (λ (x : Module). slice_get x.imports f) (sym c.parts-source.ensures.value) ∙ sym c.in-Some-Some.ensures.value in
    let typed : type_at m f ≡ Some c.in-Some-Some.ftype.now = ap (λ (x : Module). type_at x f) (sym c.parts-source.ensures.value) ∙ sym c.in-Some-Some.ensures' in
    c.requires.host.serves f c.in-Some-Some.import.now c.in-Some-Some.ftype.now at (sym (import_type m f c.in-Some-Some.import.now at) ∙ typed)

pub call_alone-requires-clause-args : goal.call_alone-requires-clause-args
call_alone-requires-clause-args g c =
    let m = c.args.runner.now.source.now in
    let typed : type_at m c.args.function ≡ Some c.in-Some-Some.ftype.now = ap (λ (x : Module). type_at x c.args.function) (sym c.parts-source.ensures.value) ∙ sym c.in-Some-Some.ensures' in
    let taken = c.requires.args in
    let both : Some taken.0 ≡ Some c.in-Some-Some.ftype.now = sym taken.1 ∙ typed in
    let same : taken.0 ≡ c.in-Some-Some.ftype.now = cc in
    taken.2 ∙ ap (λ (t : FuncType). t.params) same

pub call_alone-requires-clause-one : goal.call_alone-requires-clause-one
call_alone-requires-clause-one g c =
    let p = program_of c.args.runner.now.source.now c.args.runner.now.prepared.now c.requires.sound in
    few_results (program_of c.args.runner.now.source.now c.args.runner.now.prepared.now c.requires.sound) c.args.function c.in-Some-Some.ftype.now (valid_program (program_of c.args.runner.now.source.now c.args.runner.now.prepared.now c.requires.sound) c.args.runner.now.source.now c.args.runner.now.prepared.now c.requires.sound refl c.requires.sound.whole.write) (ap (λ (x : Module). type_at x c.args.function) (sym c.parts-source.ensures.value) ∙ sym c.in-Some-Some.ensures')

pub returns-clause-came : goal.returns-clause-came
returns-clause-came g c = λ p w co e is s.
    let at : slice_get p.module_.imports c.args.function ≡ Some c.in-Some-Some.import.now = ap (λ (x : Module). slice_get x.imports c.args.function) (e ∙ sym c.parts-source.ensures.value) ∙ sym c.in-Some-Some.ensures.value in
    let typed : type_at p.module_ c.args.function ≡ Some c.in-Some-Some.ftype.now = ap (λ (x : Module). type_at x c.args.function) (e ∙ sym c.parts-source.ensures.value) ∙ sym c.in-Some-Some.ensures' in
    by_same p c.args.runner.now.prepared.now.codes.items (g.H.HostSide.used_up c.call_alone.new.hosts) (alone (engine p (g.H.HostSide.collecting c.args.hosts.now) c.args.runner.now.depth) (host_call c.args.function c.in-Some-Some.import.now c.in-Some-Some.ftype.now c.args.args.now) w co) (function_going (engine p (g.H.HostSide.collecting c.args.hosts.now) c.args.runner.now.depth) c.args.function c.args.args.now w co) w co c.args.fuel c.call_alone.result.answer c.call_alone.result.steps c.call_alone.new.m (g.H.HostSide.calls c.args.hosts.now) (g.H.HostSide.calls c.call_alone.new.hosts)
    (same_alone p (g.H.HostSide.collecting c.args.hosts.now) c.args.runner.now.depth c.args.function c.in-Some-Some.import.now c.in-Some-Some.ftype.now c.args.args.now w co at typed)
    (c.call_alone.ensures.came p c.args.runner.now.prepared.now.codes.items c.args.runner.now.depth w co at s (subst (λ (x : Module). WorldFits x w) (sym e) (each_fits c.args.runner.now.source.now c.args.m.now w s c.requires.fits)))

pub returns-clause-within : goal.returns-clause-within
returns-clause-within g c =
    let p = program_of c.args.runner.now.source.now c.args.runner.now.prepared.now c.requires.sound in
    let w = world_of c.args.m.now [] in
    within_fuel p c.args.runner.now.prepared.now.codes.items (g.H.HostSide.used_up c.call_alone.new.hosts) (function_going (engine p (g.H.HostSide.collecting c.args.hosts.now) c.args.runner.now.depth) c.args.function c.args.args.now w []) w [] c.args.fuel c.call_alone.result.steps c.call_alone.new.m (g.H.HostSide.calls c.args.hosts.now) (g.H.HostSide.calls c.call_alone.new.hosts) c.call_alone.result.answer
    (returns-clause-came g c p w [] refl c.requires.sound.whole.write (shares_own c.args.m.now []))

pub returns-clause-fits : goal.returns-clause-fits
returns-clause-fits g c =
    let p = program_of c.args.runner.now.source.now c.args.runner.now.prepared.now c.requires.sound in
    let w = world_of c.args.m.now [] in
    fits_then p c.args.runner.now.prepared.now.codes.items (g.H.HostSide.used_up c.call_alone.new.hosts) (function_going (engine p (g.H.HostSide.collecting c.args.hosts.now) c.args.runner.now.depth) c.args.function c.args.args.now w []) w [] c.args.fuel c.call_alone.result.steps c.call_alone.new.m (g.H.HostSide.calls c.args.hosts.now) (g.H.HostSide.calls c.call_alone.new.hosts) c.call_alone.result.answer
    (returns-clause-came g c p w [] refl c.requires.sound.whole.write (shares_own c.args.m.now []))

pub returns-clause-watched : goal.returns-clause-watched
returns-clause-watched g c = λ p w co e is s.
    let at : slice_get p.module_.imports c.args.function ≡ Some c.in-Some-Some.import.now = ap (λ (x : Module). slice_get x.imports c.args.function) (e ∙ sym c.parts-source.ensures.value) ∙ sym c.in-Some-Some.ensures.value in
    let typed : type_at p.module_ c.args.function ≡ Some c.in-Some-Some.ftype.now = ap (λ (x : Module). type_at x c.args.function) (e ∙ sym c.parts-source.ensures.value) ∙ sym c.in-Some-Some.ensures' in
    let M = engine p (g.H.HostSide.collecting c.args.hosts.now) c.args.runner.now.depth in
    let call = host_call c.args.function c.in-Some-Some.import.now c.in-Some-Some.ftype.now c.args.args.now in
    alone_watched g.W.Watch.Saw p.module_ (function_placing M c.args.function c.args.args.now w co) p c.args.runner.now.prepared.now.codes.items (g.H.HostSide.used_up c.call_alone.new.hosts) M call w co c.args.fuel c.call_alone.result.answer c.call_alone.result.steps c.call_alone.new.m (g.H.HostSide.calls c.args.hosts.now) (g.H.HostSide.calls c.call_alone.new.hosts) c.args.watch.now c.see_alone.new.watch
    (same_alone_places p (g.H.HostSide.collecting c.args.hosts.now) c.args.runner.now.depth c.args.function c.in-Some-Some.import.now c.in-Some-Some.ftype.now c.args.args.now w co at typed)
    (λ seen. c.see_alone.ensures p.module_ seen)
    (c.call_alone.ensures.came p c.args.runner.now.prepared.now.codes.items c.args.runner.now.depth w co at s (subst (λ (x : Module). WorldFits x w) (sym e) (each_fits c.args.runner.now.source.now c.args.m.now w s c.requires.fits)))
