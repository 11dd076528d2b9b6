use Rattle.std.proofs.Common.{◌≡◌, ◌∙◌, ◌-◌, [], refl, sym, subst}
use Rattle.std.specs.Prelude.{Some, true, false}
use Rattle.wasm_syntax.specs.Run.{engine}
use Rattle.machine_hosted.specs.declared.answer.EntryRun.{EntryRun}
use Rattle.machine_hosted.specs.declared.answer.RunEnd.{RunEnd}
use Rattle.machine_hosted.specs.declared.answer.RunEnd.TheVariants.{Finished}
use Rattle.machine_hosted.specs.calls.Settings.{world_of}
use Rattle.machine_hosted.specs.calls.Answers.{FunctionCameWith, function_going}
use Rattle.machine_hosted.specs.calls.Invocations.{InvocationCameWith, invoking, finishes}
use Rattle.machine_hosted.specs.calls.Watching.{Watched, function_placing, invocation_placing}
use Rattle.machine_hosted.proofs.WatchJoins as joins
use Rattle.machine_hosted.proofs.WorldLaws.{shares_own}
use Rattle.machine_hosted.proofs.ModuleLaws.{function_there}
use Rattle.machine_hosted.proofs.JoinLaws.{inside_start, behind_start, w1, co1, has_finished, not_finished}
use Rattle.machine_hosted.proofs.watched_invocation.watch_with_start.Goals as goal

pub returns-then-not-is_finished-clause-came : goal.returns-then-not-is_finished-clause-came
returns-then-not-is_finished-clause-came g c = λ p e is.
    let M = engine p (g.H.HostSide.collecting c.args.hosts.now) c.args.runner.now.depth in
    let codes = c.args.runner.now.prepared.now.codes.items in
    let w = world_of c.args.m.now [] in
    let mid = c.watch_function-first.new.m in
    let old = g.H.HostSide.calls c.args.hosts.now in
    let middle = g.H.HostSide.calls c.watch_function-first.new.hosts in
    let up = g.H.HostSide.used_up c.watch_function-first.new.hosts in
    let fn = function_there p c.args.runner.now.source.now c.args.runner.now.prepared.now c.args.entry.now.index c.args.entry.now.args.now c.requires.sound e is c.requires.entry in
    let no : finishes c.watch_function-first.result.answer ≡ false = sym c.is_finished.ensures ∙ c.if-not-is_finished.true in
    subst (λ (r : EntryRun). InvocationCameWith p codes up (invoking M (Some c.args.start) c.args.entry.now.index c.args.entry.now.args.now w) c.args.fuel r.answer r.steps r.ready r.entered mid old middle) (sym c.ended.ensures)
    (inside_start p codes up M refl c.args.m.now c.args.entry.now.index c.args.entry.now.args.now c.args.fuel c.args.start fn.0 fn.1 c.watch_function-first.result.answer (not_finished c.watch_function-first.result.answer no) c.watch_function-first.result.steps mid old middle
    (c.watch_function-first.ensures.came p w [] e is (shares_own c.args.m.now [])))

pub returns-clause-came : goal.returns-clause-came
returns-clause-came g c = λ p e is.
    let M = engine p (g.H.HostSide.collecting c.args.hosts.now) c.args.runner.now.depth in
    let codes = c.args.runner.now.prepared.now.codes.items in
    let w = world_of c.args.m.now [] in
    let mid = c.watch_function-first.new.m in
    let old = g.H.HostSide.calls c.args.hosts.now in
    let middle = g.H.HostSide.calls c.watch_function-first.new.hosts in
    let new = g.H.HostSide.calls c.watch_function-then.new.hosts in
    let made = c.watch_function-first.result.steps in
    let up = g.H.HostSide.used_up c.watch_function-then.new.hosts in
    let yes : finishes c.watch_function-first.result.answer ≡ true = sym c.is_finished.ensures ∙ c.if-not-is_finished.false in
    let v = has_finished c.watch_function-first.result.answer yes in
    let first : FunctionCameWith p codes (g.H.HostSide.used_up c.watch_function-first.new.hosts) (function_going M c.args.start [] w []) w [] c.args.fuel (Finished v.0) made mid old middle =
    subst (λ (a : RunEnd). FunctionCameWith p codes (g.H.HostSide.used_up c.watch_function-first.new.hosts) (function_going M c.args.start [] w []) w [] c.args.fuel a made mid old middle) v.1 (c.watch_function-first.ensures.came p w [] e is (shares_own c.args.m.now [])) in
    let u = w1 p codes up M refl c.args.m.now c.args.entry.now.index c.args.entry.now.args.now c.args.fuel c.args.start mid made first.asked in
    let uo = co1 p codes up M refl c.args.m.now c.args.entry.now.index c.args.entry.now.args.now c.args.fuel c.args.start mid made first.asked in
    let second : FunctionCameWith p codes up (function_going M c.args.entry.now.index c.args.entry.now.args.now u uo) u uo (c.args.fuel - made) c.watch_function-then.result.answer c.watch_function-then.result.steps c.watch_function-then.new.m middle new =
    subst (λ b. FunctionCameWith p codes up (function_going (engine p b c.args.runner.now.depth) c.args.entry.now.index c.args.entry.now.args.now u uo) u uo (c.args.fuel - made) c.watch_function-then.result.answer c.watch_function-then.result.steps c.watch_function-then.new.m middle new) c.watch_function-first.ensures.host.collecting_is
    (c.watch_function-then.ensures.came p u uo e is (record { holds = record { globals = refl; memory = refl }; table = refl })) in
    subst (λ (r : EntryRun). InvocationCameWith p codes up (invoking M (Some c.args.start) c.args.entry.now.index c.args.entry.now.args.now w) c.args.fuel r.answer r.steps r.ready r.entered c.watch_function-then.new.m old new) (sym c.ended-2.ensures)
    (behind_start p codes up M refl c.args.m.now c.args.entry.now.index c.args.entry.now.args.now c.args.fuel c.args.start mid made first.asked (g.H.HostSide.used_up c.watch_function-first.new.hosts) v.0 old middle new c.watch_function-then.result.answer c.watch_function-then.result.steps c.watch_function-then.new.m
    (λ more. first.came more tt) first.grew second)

pub returns-then-not-is_finished-clause-watched : goal.returns-then-not-is_finished-clause-watched
returns-then-not-is_finished-clause-watched g c = λ p e is.
    let M = engine p (g.H.HostSide.collecting c.args.hosts.now) c.args.runner.now.depth in
    let w = world_of c.args.m.now [] in
    let old = g.H.HostSide.calls c.args.hosts.now in
    let middle = g.H.HostSide.calls c.watch_function-first.new.hosts in
    subst (λ (r : EntryRun). Watched g.W.Watch.Saw p.module_ (invocation_placing M (Some c.args.start) c.args.entry.now.index c.args.entry.now.args.now w) c.args.fuel r.answer r.steps c.args.watch.now c.watch_function-first.new.watch old middle) (sym c.ended.ensures)
    (joins.inside_start g.W.Watch.Saw p.module_ M c.args.m.now c.args.entry.now.index c.args.entry.now.args.now c.args.fuel c.args.start c.watch_function-first.result.answer c.watch_function-first.result.steps c.args.watch.now c.watch_function-first.new.watch old middle
    (c.watch_function-first.ensures.watched p w [] e is (shares_own c.args.m.now [])))

pub returns-clause-watched : goal.returns-clause-watched
returns-clause-watched g c = λ p e is.
    let M = engine p (g.H.HostSide.collecting c.args.hosts.now) c.args.runner.now.depth in
    let codes = c.args.runner.now.prepared.now.codes.items in
    let w = world_of c.args.m.now [] in
    let mid = c.watch_function-first.new.m in
    let old = g.H.HostSide.calls c.args.hosts.now in
    let middle = g.H.HostSide.calls c.watch_function-first.new.hosts in
    let new = g.H.HostSide.calls c.watch_function-then.new.hosts in
    let made = c.watch_function-first.result.steps in
    let up = g.H.HostSide.used_up c.watch_function-then.new.hosts in
    let first_up = g.H.HostSide.used_up c.watch_function-first.new.hosts in
    let answer = c.watch_function-then.result.answer in
    let steps = c.watch_function-then.result.steps in
    let unseen = c.args.watch.now in
    let between = c.watch_function-first.new.watch in
    let seen = c.watch_function-then.new.watch in
    let yes : finishes c.watch_function-first.result.answer ≡ true = sym c.is_finished.ensures ∙ c.if-not-is_finished.false in
    let v = has_finished c.watch_function-first.result.answer yes in
    let first : FunctionCameWith p codes first_up (function_going M c.args.start [] w []) w [] c.args.fuel (Finished v.0) made mid old middle =
    subst (λ (a : RunEnd). FunctionCameWith p codes first_up (function_going M c.args.start [] w []) w [] c.args.fuel a made mid old middle) v.1 (c.watch_function-first.ensures.came p w [] e is (shares_own c.args.m.now [])) in
    let one : Watched g.W.Watch.Saw p.module_ (function_placing M c.args.start [] w []) c.args.fuel (Finished v.0) made unseen between old middle =
    subst (λ (a : RunEnd). Watched g.W.Watch.Saw p.module_ (function_placing M c.args.start [] w []) c.args.fuel a made unseen between old middle) v.1 (c.watch_function-first.ensures.watched p w [] e is (shares_own c.args.m.now [])) in
    let u = w1 p codes up M refl c.args.m.now c.args.entry.now.index c.args.entry.now.args.now c.args.fuel c.args.start mid made first.asked in
    let uo = co1 p codes up M refl c.args.m.now c.args.entry.now.index c.args.entry.now.args.now c.args.fuel c.args.start mid made first.asked in
    let two : Watched g.W.Watch.Saw p.module_ (function_placing M c.args.entry.now.index c.args.entry.now.args.now u uo) (c.args.fuel - made) answer steps between seen middle new =
    subst (λ b. Watched g.W.Watch.Saw p.module_ (function_placing (engine p b c.args.runner.now.depth) c.args.entry.now.index c.args.entry.now.args.now u uo) (c.args.fuel - made) answer steps between seen middle new) c.watch_function-first.ensures.host.collecting_is
    (c.watch_function-then.ensures.watched p u uo e is (record { holds = record { globals = refl; memory = refl }; table = refl })) in
    subst (λ (r : EntryRun). Watched g.W.Watch.Saw p.module_ (invocation_placing M (Some c.args.start) c.args.entry.now.index c.args.entry.now.args.now w) c.args.fuel r.answer r.steps unseen seen old new) (sym c.ended-2.ensures)
    (joins.behind_start g.W.Watch.Saw p.module_ M c.args.m.now c.args.entry.now.index c.args.entry.now.args.now c.args.fuel c.args.start mid made first.asked p codes first_up v.0 unseen between seen old middle new answer steps
    (λ more. first.came more tt) first.grew one two)
