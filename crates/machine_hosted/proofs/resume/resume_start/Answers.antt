use Rattle.std.proofs.Common.{◌≡◌, ◌∙◌, ◌-◌, [], refl, sym, subst}
use Rattle.std.specs.Prelude.{Bool, Some, true, false}
use Rattle.wasm_syntax.specs.Run.{engine}
use Rattle.machine_hosted.specs.declared.answer.EntryRun.{EntryRun}
use Rattle.machine_hosted.specs.declared.answer.RunEnd.{RunEnd}
use Rattle.machine_hosted.specs.calls.Answers.{FunctionCameWith, function_going}
use Rattle.machine_hosted.specs.calls.Invocations.{finishes}
use Rattle.machine_hosted.specs.calls.Courses.{WentOn}
use Rattle.machine_hosted.specs.inner.Resumes.{resuming}
use Rattle.machine_hosted.proofs.ModuleLaws.{program_of, takes_start}
use Rattle.machine_hosted.proofs.JoinLaws.{has_finished, not_finished}
use Rattle.machine_hosted.proofs.CourseLaws.{start_place}
use Rattle.machine_hosted.proofs.WentLaws.{start_there, start_went, start_ended}
use Rattle.machine_hosted.proofs.resume.resume_start.Goals as goal

pub resume_function-first-requires-clause-args : goal.resume_function-first-requires-clause-args
resume_function-first-requires-clause-args g c =
    let source = c.args.runner.now.source.now in
    takes_start source (Some c.args.start) c.requires.sound.valid (λ f e. c.requires.start ∙ e)

pub resume_function-first-requires-clause-waits : goal.resume_function-first-requires-clause-waits
resume_function-first-requires-clause-waits g c = λ p e is.
    let s = c.requires.stopped p e is in
    let place = (start_place c.args.runner.now.source.now c.args.runner.now.prepared.now c.requires.sound p e is (g.H.HostSide.collecting c.args.hosts.now) c.args.runner.now.depth c.args.entry c.args.args.now s.0 s.1 c.args.m.now false s.2 refl c.args.start c.requires.start []).2 in
    (place.there, place.waits)

pub watch_function-then-requires-clause-args : goal.watch_function-then-requires-clause-args
watch_function-then-requires-clause-args g c =
    let s = c.requires.stopped (program_of c.args.runner.now.source.now c.args.runner.now.prepared.now c.requires.sound) refl c.requires.sound.whole.write in
    s.2.takes

pub returns-then-not-is_finished-clause-came : goal.returns-then-not-is_finished-clause-came
returns-then-not-is_finished-clause-came g c = λ p course ready e is h.
    let source = c.args.runner.now.source.now in
    let prepared = c.args.runner.now.prepared.now in
    let collecting = g.H.HostSide.collecting c.args.hosts.now in
    let depth = c.args.runner.now.depth in
    let first = c.resume_function-first.result in
    let mid = c.resume_function-first.new.m in
    let old = g.H.HostSide.calls c.args.hosts.now in
    let middle = g.H.HostSide.calls c.resume_function-first.new.hosts in
    let up = g.H.HostSide.used_up c.resume_function-first.new.hosts in
    let no : finishes c.resume_function-first.result.answer ≡ false = sym c.is_finished.ensures ∙ c.if-not-is_finished.true in
    subst (λ (r : EntryRun). WentOn p prepared.codes.items collecting depth c.args.entry c.args.args.now up course c.args.fuel r mid old middle) (sym c.ended.ensures)
    (start_went source prepared c.requires.sound p e is collecting depth c.args.entry c.args.args.now course ready c.args.m.now c.args.start c.requires.start h up c.args.fuel first.steps first.answer mid old middle (not_finished first.answer no)
    (λ more.
    let place = start_there source prepared c.requires.sound p e is collecting depth c.args.entry c.args.args.now course ready c.args.m.now c.args.start c.requires.start h more in
    c.resume_function-first.ensures.came p place.there e is place.waits))

pub returns-clause-came : goal.returns-clause-came
returns-clause-came g c = λ p course ready e is h.
    let source = c.args.runner.now.source.now in
    let prepared = c.args.runner.now.prepared.now in
    let collecting = g.H.HostSide.collecting c.args.hosts.now in
    let depth = c.args.runner.now.depth in
    let first = c.resume_function-first.result in
    let then = c.watch_function-then.result in
    let mid = c.resume_function-first.new.m in
    let later = c.watch_function-then.new.m in
    let old = g.H.HostSide.calls c.args.hosts.now in
    let middle = g.H.HostSide.calls c.resume_function-first.new.hosts in
    let new = g.H.HostSide.calls c.watch_function-then.new.hosts in
    let first_up = g.H.HostSide.used_up c.resume_function-first.new.hosts in
    let up = g.H.HostSide.used_up c.watch_function-then.new.hosts in
    let yes : finishes c.resume_function-first.result.answer ≡ true = sym c.is_finished.ensures ∙ c.if-not-is_finished.false in
    let v = has_finished first.answer yes in
    subst (λ (r : EntryRun). WentOn p prepared.codes.items collecting depth c.args.entry c.args.args.now up course c.args.fuel r later old new) (sym c.ended-2.ensures)
    (start_ended source prepared c.requires.sound p e is collecting depth c.args.entry c.args.args.now course ready c.args.m.now c.args.start c.requires.start h first_up up c.args.fuel first.steps then.steps v.0 then.answer mid later old middle new
    (λ more.
    let place = start_there source prepared c.requires.sound p e is collecting depth c.args.entry c.args.args.now course ready c.args.m.now c.args.start c.requires.start h more in
    subst (λ (a : RunEnd). FunctionCameWith p prepared.codes.items first_up (resuming (engine p collecting depth) c.args.start place.waits.fn [] place.there) place.there.world place.there.collected c.args.fuel a first.steps mid old middle) v.1
    (c.resume_function-first.ensures.came p place.there e is place.waits))
    (λ w co s.
    subst (λ (b : Bool). FunctionCameWith p prepared.codes.items up (function_going (engine p b depth) c.args.entry c.args.args.now w co) w co (c.args.fuel - first.steps) then.answer then.steps later middle new) c.resume_function-first.ensures.host.collecting_is
    (c.watch_function-then.ensures.came p w co e is s)))
