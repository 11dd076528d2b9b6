use Rattle.std.proofs.Common.{◌≡◌, ◌∙◌, [], refl, sym, ap, subst}
use Rattle.std.specs.Prelude.{Bool, true, false, Some, None}
use Rattle.wasm_syntax.specs.declared.module.ModuleParts.{ModuleParts as Module}
use Rattle.machine_hosted.specs.declared.answer.EntryRun.{EntryRun}
use Rattle.machine_hosted.specs.declared.answer.RunEnd.TheVariants.{FuelSpent}
use Rattle.machine_hosted.specs.calls.Courses.{Followed, WentOn}
use Rattle.machine_hosted.proofs.ModuleLaws.{program_of}
use Rattle.machine_hosted.proofs.CourseLaws.{entry_place, start_due}
use Rattle.machine_hosted.proofs.WentLaws.{there, entry_went}
use Rattle.machine_hosted.proofs.resume.resume_invocation.Goals as goal

pub resume_function-run-requires-clause-args : goal.resume_function-run-requires-clause-args
resume_function-run-requires-clause-args g c =
    let s = c.requires.stopped (program_of c.args.runner.now.source.now c.args.runner.now.prepared.now c.requires.sound) refl c.requires.sound.whole.write in
    s.2.takes

pub resume_function-run-requires-clause-waits : goal.resume_function-run-requires-clause-waits
resume_function-run-requires-clause-waits g c = λ p e is.
    let s = c.requires.stopped p e is in
    let place = (entry_place c.args.runner.now.source.now c.args.runner.now.prepared.now c.requires.sound p e is (g.H.HostSide.collecting c.args.hosts.now) c.args.runner.now.depth c.args.entry c.args.args.now s.0 s.1 c.args.m.now c.args.entered s.2 c.if-entered.true []).1 in
    (place.there, place.waits)

pub returns-then-entered-clause-came : goal.returns-then-entered-clause-came
returns-then-entered-clause-came g c = λ p course ready e is h.
    let source = c.args.runner.now.source.now in
    let prepared = c.args.runner.now.prepared.now in
    let collecting = g.H.HostSide.collecting c.args.hosts.now in
    let depth = c.args.runner.now.depth in
    let run = c.resume_function-run.result in
    let later = c.resume_function-run.new.m in
    let old = g.H.HostSide.calls c.args.hosts.now in
    let new = g.H.HostSide.calls c.resume_function-run.new.hosts in
    let up = g.H.HostSide.used_up c.resume_function-run.new.hosts in
    let f = subst (λ (b : Bool). Followed p prepared.codes.items collecting depth c.args.entry c.args.args.now source course FuelSpent ready b c.args.m.now) c.if-entered.true h in
    subst (λ (r : EntryRun). WentOn p prepared.codes.items collecting depth c.args.entry c.args.args.now up course c.args.fuel r later old new) (sym c.ended.ensures)
    (entry_went source prepared c.requires.sound p e is collecting depth c.args.entry c.args.args.now course ready c.args.m.now f up c.args.fuel run.steps run.answer later old new
    (λ more.
    let place = there source prepared c.requires.sound p e is collecting depth c.args.entry c.args.args.now course ready c.args.m.now f more in
    c.resume_function-run.ensures.came p place.there e is place.waits))

pub resume_start-requires-clause-start : goal.resume_start-requires-clause-start
resume_start-requires-clause-start g c = ap (λ (x : Module). x.start) (sym c.parts-source.ensures.value) ∙ c.in-Some.is

pub unreachable-requires : goal.unreachable-requires
unreachable-requires g c =
    let source = c.args.runner.now.source.now in
    let prepared = c.args.runner.now.prepared.now in
    let p = program_of source prepared c.requires.sound in
    let s = c.requires.stopped p refl c.requires.sound.whole.write in
    let due = start_due source prepared c.requires.sound p refl c.requires.sound.whole.write (g.H.HostSide.collecting c.args.hosts.now) c.args.runner.now.depth c.args.entry c.args.args.now s.0 s.1 c.args.m.now c.args.entered s.2 c.if-entered.false in
    let z : None ≡ Some due.0 = sym c.in-None.is ∙ ap (λ (x : Module). x.start) c.parts-source.ensures.value ∙ due.1 in
    cc

pub returns-clause-came : goal.returns-clause-came
returns-clause-came g c = λ p course ready e is h.
    let source = c.args.runner.now.source.now in
    let prepared = c.args.runner.now.prepared.now in
    let collecting = g.H.HostSide.collecting c.args.hosts.now in
    c.resume_start.ensures.came p course ready e is
    (subst (λ (b : Bool). Followed p prepared.codes.items collecting c.args.runner.now.depth c.args.entry c.args.args.now source course FuelSpent ready b c.args.m.now) c.if-entered.false h)
