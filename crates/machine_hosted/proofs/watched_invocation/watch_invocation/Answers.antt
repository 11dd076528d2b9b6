use Rattle.std.proofs.Common.{[], refl, sym, subst}
use Rattle.std.specs.Prelude.{true}
use Rattle.wasm_syntax.specs.Run.{engine}
use Rattle.machine_hosted.specs.declared.answer.EntryRun.{EntryRun}
use Rattle.machine_hosted.specs.calls.Settings.{world_of}
use Rattle.machine_hosted.specs.calls.Invocations.{InvocationCameWith, invoking, follows_behind}
use Rattle.machine_hosted.specs.calls.Watching.{Watched, invocation_placing}
use Rattle.machine_hosted.proofs.WorldLaws.{shares_own}
use Rattle.machine_hosted.proofs.JoinLaws.{entry_alone}
use Rattle.machine_hosted.proofs.watched_invocation.watch_invocation.Goals as goal

pub returns-in-None-clause-came : goal.returns-in-None-clause-came
returns-in-None-clause-came g c = λ p e is.
    let M = engine p (g.H.HostSide.collecting c.args.hosts.now) c.args.runner.now.depth in
    let w = world_of c.args.m.now [] in
    subst (λ (r : EntryRun). InvocationCameWith p c.args.runner.now.prepared.now.codes.items (g.H.HostSide.used_up c.watch_function-run.new.hosts) (invoking (engine p (g.H.HostSide.collecting c.args.hosts.now) c.args.runner.now.depth) c.args.start c.args.entry.now.index c.args.entry.now.args.now (world_of c.args.m.now [])) c.args.fuel r.answer r.steps r.ready r.entered c.watch_function-run.new.m (g.H.HostSide.calls c.args.hosts.now) (g.H.HostSide.calls c.watch_function-run.new.hosts)) (sym c.ended.ensures)
    (subst (λ o. InvocationCameWith p c.args.runner.now.prepared.now.codes.items (g.H.HostSide.used_up c.watch_function-run.new.hosts) (invoking (engine p (g.H.HostSide.collecting c.args.hosts.now) c.args.runner.now.depth) o c.args.entry.now.index c.args.entry.now.args.now (world_of c.args.m.now [])) c.args.fuel c.watch_function-run.result.answer c.watch_function-run.result.steps (follows_behind c.watch_function-run.result.answer true) true c.watch_function-run.new.m (g.H.HostSide.calls c.args.hosts.now) (g.H.HostSide.calls c.watch_function-run.new.hosts)) (sym c.in-None.is)
    (entry_alone p c.args.runner.now.prepared.now.codes.items (g.H.HostSide.used_up c.watch_function-run.new.hosts) M refl c.args.m.now c.args.entry.now.index c.args.entry.now.args.now c.args.fuel c.watch_function-run.result.answer c.watch_function-run.result.steps c.watch_function-run.new.m (g.H.HostSide.calls c.args.hosts.now) (g.H.HostSide.calls c.watch_function-run.new.hosts)
    (c.watch_function-run.ensures.came p w [] e is (shares_own c.args.m.now []))))

pub returns-in-None-clause-watched : goal.returns-in-None-clause-watched
returns-in-None-clause-watched g c = λ p e is.
    let M = engine p (g.H.HostSide.collecting c.args.hosts.now) c.args.runner.now.depth in
    let w = world_of c.args.m.now [] in
    subst (λ (r : EntryRun). Watched g.W.Watch.Saw p.module_ (invocation_placing M c.args.start c.args.entry.now.index c.args.entry.now.args.now w) c.args.fuel r.answer r.steps c.args.watch.now c.watch_function-run.new.watch (g.H.HostSide.calls c.args.hosts.now) (g.H.HostSide.calls c.watch_function-run.new.hosts)) (sym c.ended.ensures)
    (subst (λ o. Watched g.W.Watch.Saw p.module_ (invocation_placing M o c.args.entry.now.index c.args.entry.now.args.now w) c.args.fuel c.watch_function-run.result.answer c.watch_function-run.result.steps c.args.watch.now c.watch_function-run.new.watch (g.H.HostSide.calls c.args.hosts.now) (g.H.HostSide.calls c.watch_function-run.new.hosts)) (sym c.in-None.is)
    (c.watch_function-run.ensures.watched p w [] e is (shares_own c.args.m.now [])))
