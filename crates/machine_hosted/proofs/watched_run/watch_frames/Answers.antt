use Rattle.std.proofs.Common.{◌≡◌, suc, ◌+◌, ◌-◌, ◌<◌, ◌≤◌, [], sym, subst, arith}
use Rattle.machine_steps.specs.declared.machine.Outcome.{Outcome}
use Rattle.machine_steps.specs.declared.machine.Outcome.TheVariants as outcomes
use Rattle.machine_steps.specs.calls.Watched.{IsCount}
use Rattle.host_devices.specs.calls.HostSides.{Calls}
use Rattle.machine_hosted.specs.declared.answer.RunEnd.TheVariants as answers
use Rattle.machine_hosted.specs.declared.answer.FunctionRun.{FunctionRun}
use Rattle.machine_hosted.specs.inner.FrameRuns.{CameWith}
use Rattle.machine_hosted.specs.calls.Watching.{Watched}
use Rattle.machine_hosted.specs.inner.Turns.{going}
use Rattle.machine_hosted.specs.inner.Watches.{frames_placing}
use Rattle.machine_hosted.proofs.HostLaws.{kept_same, kept_on, knows_then}
use Rattle.machine_hosted.proofs.StageLaws.{joined, grew_on, begins_there, at_first, lacking, spent, run_spends, run_ends, run_traps, run_calls, turn_goes, turn_ends, ran, calling}
use Rattle.machine_hosted.proofs.WatchLaws.{Seen, count_same, seen_none, seen_on, seen_more, watched_of}
use Rattle.machine_hosted.proofs.watched_run.watch_frames.Goals as goal

pub loop-made-init : goal.loop-made-init
loop-made-init g c = record {
  within = omega arith;
  so_far = λ r. record { so_far = at_first r.engine c.args.runner.now.prepared.now.codes.items r.frames r.world r.collected c.args.m.now (g.H.HostSide.calls c.args.hosts.now) (λ replies. (r.begins replies).stands); seen = seen_none g.W.Watch.Saw r.engine r.frames r.world r.collected c.args.watch.now };
  host = kept_same g.H.HostSide.origin g.H.HostSide.collecting g.H.HostSide.serving g.H.HostSide.fault_count c.args.hosts.now;
}

pub overflow_add-made : goal.overflow_add-made
overflow_add-made g c =
    let lt : c.run_watched-ended.result.steps < c.args.fuel - c.loop-made.made = (ran c.args.runner.now.prepared.now c.args.runner.now.source.now c.args.runner.now.depth c.args.m.now (g.H.HostSide.collecting c.args.hosts.now) (g.H.HostSide.serving c.args.hosts.now) c.requires.ready c.loop-made.made c.loop-made.m (g.H.HostSide.calls c.args.hosts.now) (g.H.HostSide.calls c.loop-made.hosts) (c.loop-made.invariant.so_far c.requires.ready).so_far (c.args.fuel - c.loop-made.made) c.run_watched-ended.result.outcome (outcomes.Import c.in-Import.call) c.run_watched-ended.result.steps c.run_watched-ended.new.m (λ M k b. c.run_watched-ended.ensures.came M k b) c.in-Import.is []).0 in
    omega (arith, lt, c.loop-made-test.true, c.ranges.fuel.fits)

pub serve_import-requires-clause-calling : goal.serve_import-requires-clause-calling
serve_import-requires-clause-calling g c = calling c.args.runner.now.prepared.now c.args.runner.now.source.now c.args.runner.now.depth c.args.m.now (g.H.HostSide.collecting c.args.hosts.now) (g.H.HostSide.collecting c.loop-made.hosts) (g.H.HostSide.serving c.args.hosts.now) (g.H.HostSide.serving c.loop-made.hosts) c.requires.ready c.loop-made.invariant.host.collecting_is c.loop-made.invariant.host.serving_is c.in-Import.call (c.loop-made.made + c.run_watched-ended.result.steps) c.run_watched-ended.new.m (g.H.HostSide.calls c.args.hosts.now) (g.H.HostSide.calls c.loop-made.hosts) (run_calls c.requires.ready.engine c.args.runner.now.prepared.now.codes.items c.requires.ready.frames c.requires.ready.world c.requires.ready.collected c.loop-made.made c.loop-made.m (g.H.HostSide.calls c.args.hosts.now) (g.H.HostSide.calls c.loop-made.hosts) (c.loop-made.invariant.so_far c.requires.ready).so_far c.in-Import.call (c.args.fuel - c.loop-made.made) c.run_watched-ended.result.steps c.run_watched-ended.new.m (ran c.args.runner.now.prepared.now c.args.runner.now.source.now c.args.runner.now.depth c.args.m.now (g.H.HostSide.collecting c.args.hosts.now) (g.H.HostSide.serving c.args.hosts.now) c.requires.ready c.loop-made.made c.loop-made.m (g.H.HostSide.calls c.args.hosts.now) (g.H.HostSide.calls c.loop-made.hosts) (c.loop-made.invariant.so_far c.requires.ready).so_far (c.args.fuel - c.loop-made.made) c.run_watched-ended.result.outcome (outcomes.Import c.in-Import.call) c.run_watched-ended.result.steps c.run_watched-ended.new.m (λ M k b. c.run_watched-ended.ensures.came M k b) c.in-Import.is))

pub serve_import-requires-clause-knows : goal.serve_import-requires-clause-knows
serve_import-requires-clause-knows g c = knows_then g.H.HostSide.origin g.H.HostSide.collecting g.H.HostSide.serving g.H.HostSide.fault_count c.args.runner.now.source.now c.args.hosts.now c.loop-made.hosts c.loop-made.invariant.host c.requires.knows

pub overflow_add-made-in-Goes : goal.overflow_add-made-in-Goes
overflow_add-made-in-Goes g c =
    let lt : c.run_watched-ended.result.steps < c.args.fuel - c.loop-made.made = (ran c.args.runner.now.prepared.now c.args.runner.now.source.now c.args.runner.now.depth c.args.m.now (g.H.HostSide.collecting c.args.hosts.now) (g.H.HostSide.serving c.args.hosts.now) c.requires.ready c.loop-made.made c.loop-made.m (g.H.HostSide.calls c.args.hosts.now) (g.H.HostSide.calls c.loop-made.hosts) (c.loop-made.invariant.so_far c.requires.ready).so_far (c.args.fuel - c.loop-made.made) c.run_watched-ended.result.outcome (outcomes.Import c.in-Import.call) c.run_watched-ended.result.steps c.run_watched-ended.new.m (λ M k b. c.run_watched-ended.ensures.came M k b) c.in-Import.is []).0 in
    omega (arith, lt, c.loop-made-test.true, c.ranges.fuel.fits)

pub loop-made-preserved : goal.loop-made-preserved
loop-made-preserved g c = record {
  within =
      let lt : c.run_watched-ended.result.steps < c.args.fuel - c.loop-made.made = (ran c.args.runner.now.prepared.now c.args.runner.now.source.now c.args.runner.now.depth c.args.m.now (g.H.HostSide.collecting c.args.hosts.now) (g.H.HostSide.serving c.args.hosts.now) c.requires.ready c.loop-made.made c.loop-made.m (g.H.HostSide.calls c.args.hosts.now) (g.H.HostSide.calls c.loop-made.hosts) (c.loop-made.invariant.so_far c.requires.ready).so_far (c.args.fuel - c.loop-made.made) c.run_watched-ended.result.outcome (outcomes.Import c.in-Import.call) c.run_watched-ended.result.steps c.run_watched-ended.new.m (λ M k b. c.run_watched-ended.ensures.came M k b) c.in-Import.is []).0 in
      omega (arith, lt, c.loop-made-test.true);
  so_far = λ r. record {
    so_far = turn_goes r.engine c.args.runner.now.prepared.now.codes.items r.frames r.world r.collected (c.loop-made.made + c.run_watched-ended.result.steps) c.run_watched-ended.new.m (g.H.HostSide.calls c.args.hosts.now) (g.H.HostSide.calls c.loop-made.hosts) (run_calls r.engine c.args.runner.now.prepared.now.codes.items r.frames r.world r.collected c.loop-made.made c.loop-made.m (g.H.HostSide.calls c.args.hosts.now) (g.H.HostSide.calls c.loop-made.hosts) (c.loop-made.invariant.so_far r).so_far c.in-Import.call (c.args.fuel - c.loop-made.made) c.run_watched-ended.result.steps c.run_watched-ended.new.m (ran c.args.runner.now.prepared.now c.args.runner.now.source.now c.args.runner.now.depth c.args.m.now (g.H.HostSide.collecting c.args.hosts.now) (g.H.HostSide.serving c.args.hosts.now) r c.loop-made.made c.loop-made.m (g.H.HostSide.calls c.args.hosts.now) (g.H.HostSide.calls c.loop-made.hosts) (c.loop-made.invariant.so_far r).so_far (c.args.fuel - c.loop-made.made) c.run_watched-ended.result.outcome (outcomes.Import c.in-Import.call) c.run_watched-ended.result.steps c.run_watched-ended.new.m (λ M k b. c.run_watched-ended.ensures.came M k b) c.in-Import.is)).so_far (g.H.HostSide.used_up c.serve_import.new.hosts) c.serve_import.new.m (g.H.HostSide.calls c.serve_import.new.hosts) (c.in-Goes.ensures.turned (calling c.args.runner.now.prepared.now c.args.runner.now.source.now c.args.runner.now.depth c.args.m.now (g.H.HostSide.collecting c.args.hosts.now) (g.H.HostSide.collecting c.loop-made.hosts) (g.H.HostSide.serving c.args.hosts.now) (g.H.HostSide.serving c.loop-made.hosts) r c.loop-made.invariant.host.collecting_is c.loop-made.invariant.host.serving_is c.in-Import.call (c.loop-made.made + c.run_watched-ended.result.steps) c.run_watched-ended.new.m (g.H.HostSide.calls c.args.hosts.now) (g.H.HostSide.calls c.loop-made.hosts) (run_calls r.engine c.args.runner.now.prepared.now.codes.items r.frames r.world r.collected c.loop-made.made c.loop-made.m (g.H.HostSide.calls c.args.hosts.now) (g.H.HostSide.calls c.loop-made.hosts) (c.loop-made.invariant.so_far r).so_far c.in-Import.call (c.args.fuel - c.loop-made.made) c.run_watched-ended.result.steps c.run_watched-ended.new.m (ran c.args.runner.now.prepared.now c.args.runner.now.source.now c.args.runner.now.depth c.args.m.now (g.H.HostSide.collecting c.args.hosts.now) (g.H.HostSide.serving c.args.hosts.now) r c.loop-made.made c.loop-made.m (g.H.HostSide.calls c.args.hosts.now) (g.H.HostSide.calls c.loop-made.hosts) (c.loop-made.invariant.so_far r).so_far (c.args.fuel - c.loop-made.made) c.run_watched-ended.result.outcome (outcomes.Import c.in-Import.call) c.run_watched-ended.result.steps c.run_watched-ended.new.m (λ M k b. c.run_watched-ended.ensures.came M k b) c.in-Import.is))));
    seen =
        let one : c.run_watched-ended.ensures.watched.count ≡ suc c.run_watched-ended.result.steps = (subst (λ (o : Outcome). IsCount o c.run_watched-ended.result.steps c.run_watched-ended.ensures.watched.count) c.in-Import.is c.run_watched-ended.ensures.watched.is) in
        let all : c.loop-made.made + c.run_watched-ended.ensures.watched.count ≡ c.loop-made.made + c.run_watched-ended.result.steps + 1 = omega (arith, one) in
        subst (λ n. Seen g.W.Watch.Saw r.engine r.frames r.world r.collected (joined (c.loop-made.invariant.so_far r).so_far.asked (c.in-Goes.ensures.turned (calling c.args.runner.now.prepared.now c.args.runner.now.source.now c.args.runner.now.depth c.args.m.now (g.H.HostSide.collecting c.args.hosts.now) (g.H.HostSide.collecting c.loop-made.hosts) (g.H.HostSide.serving c.args.hosts.now) (g.H.HostSide.serving c.loop-made.hosts) r c.loop-made.invariant.host.collecting_is c.loop-made.invariant.host.serving_is c.in-Import.call (c.loop-made.made + c.run_watched-ended.result.steps) c.run_watched-ended.new.m (g.H.HostSide.calls c.args.hosts.now) (g.H.HostSide.calls c.loop-made.hosts) (run_calls r.engine c.args.runner.now.prepared.now.codes.items r.frames r.world r.collected c.loop-made.made c.loop-made.m (g.H.HostSide.calls c.args.hosts.now) (g.H.HostSide.calls c.loop-made.hosts) (c.loop-made.invariant.so_far r).so_far c.in-Import.call (c.args.fuel - c.loop-made.made) c.run_watched-ended.result.steps c.run_watched-ended.new.m (ran c.args.runner.now.prepared.now c.args.runner.now.source.now c.args.runner.now.depth c.args.m.now (g.H.HostSide.collecting c.args.hosts.now) (g.H.HostSide.serving c.args.hosts.now) r c.loop-made.made c.loop-made.m (g.H.HostSide.calls c.args.hosts.now) (g.H.HostSide.calls c.loop-made.hosts) (c.loop-made.invariant.so_far r).so_far (c.args.fuel - c.loop-made.made) c.run_watched-ended.result.outcome (outcomes.Import c.in-Import.call) c.run_watched-ended.result.steps c.run_watched-ended.new.m (λ M k b. c.run_watched-ended.ensures.came M k b) c.in-Import.is)))).asked) n c.args.watch.now c.run_watched-ended.new.watch) all
        (seen_more g.W.Watch.Saw r.engine r.frames r.world r.collected (c.loop-made.invariant.so_far r).so_far.asked (c.in-Goes.ensures.turned (calling c.args.runner.now.prepared.now c.args.runner.now.source.now c.args.runner.now.depth c.args.m.now (g.H.HostSide.collecting c.args.hosts.now) (g.H.HostSide.collecting c.loop-made.hosts) (g.H.HostSide.serving c.args.hosts.now) (g.H.HostSide.serving c.loop-made.hosts) r c.loop-made.invariant.host.collecting_is c.loop-made.invariant.host.serving_is c.in-Import.call (c.loop-made.made + c.run_watched-ended.result.steps) c.run_watched-ended.new.m (g.H.HostSide.calls c.args.hosts.now) (g.H.HostSide.calls c.loop-made.hosts) (run_calls r.engine c.args.runner.now.prepared.now.codes.items r.frames r.world r.collected c.loop-made.made c.loop-made.m (g.H.HostSide.calls c.args.hosts.now) (g.H.HostSide.calls c.loop-made.hosts) (c.loop-made.invariant.so_far r).so_far c.in-Import.call (c.args.fuel - c.loop-made.made) c.run_watched-ended.result.steps c.run_watched-ended.new.m (ran c.args.runner.now.prepared.now c.args.runner.now.source.now c.args.runner.now.depth c.args.m.now (g.H.HostSide.collecting c.args.hosts.now) (g.H.HostSide.serving c.args.hosts.now) r c.loop-made.made c.loop-made.m (g.H.HostSide.calls c.args.hosts.now) (g.H.HostSide.calls c.loop-made.hosts) (c.loop-made.invariant.so_far r).so_far (c.args.fuel - c.loop-made.made) c.run_watched-ended.result.outcome (outcomes.Import c.in-Import.call) c.run_watched-ended.result.steps c.run_watched-ended.new.m (λ M k b. c.run_watched-ended.ensures.came M k b) c.in-Import.is)))).asked (c.loop-made.made + c.run_watched-ended.ensures.watched.count) c.args.watch.now c.run_watched-ended.new.watch (seen_on g.W.Watch.Saw r.engine r.frames r.world r.collected c.args.runner.now.prepared.now c.args.runner.now.depth c.loop-made.made c.loop-made.m (g.H.HostSide.calls c.args.hosts.now) (g.H.HostSide.calls c.loop-made.hosts) (c.loop-made.invariant.so_far r).so_far c.run_watched-ended.ensures.watched.count c.args.watch.now c.loop-made.watch c.run_watched-ended.new.watch (λ more. begins_there r.engine c.args.runner.now.prepared.now c.args.runner.now.depth r.frames r.world r.collected c.args.m.now r.begins c.loop-made.made c.loop-made.m (c.loop-made.invariant.so_far r).so_far.asked more ((c.loop-made.invariant.so_far r).so_far.reaches more)) (c.loop-made.invariant.so_far r).seen c.run_watched-ended.ensures.watched.seen));
  };
  host = kept_on g.H.HostSide.origin g.H.HostSide.collecting g.H.HostSide.serving g.H.HostSide.fault_count c.args.hosts.now c.loop-made.hosts c.serve_import.new.hosts c.loop-made.invariant.host c.in-Goes.ensures.host;
}

pub overflow_add-made-in-Ends : goal.overflow_add-made-in-Ends
overflow_add-made-in-Ends g c =
    let lt : c.run_watched-ended.result.steps < c.args.fuel - c.loop-made.made = (ran c.args.runner.now.prepared.now c.args.runner.now.source.now c.args.runner.now.depth c.args.m.now (g.H.HostSide.collecting c.args.hosts.now) (g.H.HostSide.serving c.args.hosts.now) c.requires.ready c.loop-made.made c.loop-made.m (g.H.HostSide.calls c.args.hosts.now) (g.H.HostSide.calls c.loop-made.hosts) (c.loop-made.invariant.so_far c.requires.ready).so_far (c.args.fuel - c.loop-made.made) c.run_watched-ended.result.outcome (outcomes.Import c.in-Import.call) c.run_watched-ended.result.steps c.run_watched-ended.new.m (λ M k b. c.run_watched-ended.ensures.came M k b) c.in-Import.is []).0 in
    omega (arith, lt, c.loop-made-test.true, c.ranges.fuel.fits)

pub returns-in-Ends-clause-came : goal.returns-in-Ends-clause-came
returns-in-Ends-clause-came g c = λ r.
    let lt : c.run_watched-ended.result.steps < c.args.fuel - c.loop-made.made = (ran c.args.runner.now.prepared.now c.args.runner.now.source.now c.args.runner.now.depth c.args.m.now (g.H.HostSide.collecting c.args.hosts.now) (g.H.HostSide.serving c.args.hosts.now) c.requires.ready c.loop-made.made c.loop-made.m (g.H.HostSide.calls c.args.hosts.now) (g.H.HostSide.calls c.loop-made.hosts) (c.loop-made.invariant.so_far c.requires.ready).so_far (c.args.fuel - c.loop-made.made) c.run_watched-ended.result.outcome (outcomes.Import c.in-Import.call) c.run_watched-ended.result.steps c.run_watched-ended.new.m (λ M k b. c.run_watched-ended.ensures.came M k b) c.in-Import.is []).0 in
    subst (λ (h : FunctionRun). CameWith r.engine.program c.args.runner.now.prepared.now.codes.items (g.H.HostSide.used_up c.serve_import.new.hosts) (going r.engine r.frames r.world r.collected) r.world r.collected c.args.fuel h.answer h.steps c.serve_import.new.m (g.H.HostSide.calls c.args.hosts.now) (g.H.HostSide.calls c.serve_import.new.hosts)) (sym c.ran.ensures)
    (turn_ends r.engine c.args.runner.now.prepared.now.codes.items r.frames r.world r.collected (c.loop-made.made + c.run_watched-ended.result.steps) c.run_watched-ended.new.m (g.H.HostSide.calls c.args.hosts.now) (g.H.HostSide.calls c.loop-made.hosts) (run_calls r.engine c.args.runner.now.prepared.now.codes.items r.frames r.world r.collected c.loop-made.made c.loop-made.m (g.H.HostSide.calls c.args.hosts.now) (g.H.HostSide.calls c.loop-made.hosts) (c.loop-made.invariant.so_far r).so_far c.in-Import.call (c.args.fuel - c.loop-made.made) c.run_watched-ended.result.steps c.run_watched-ended.new.m (ran c.args.runner.now.prepared.now c.args.runner.now.source.now c.args.runner.now.depth c.args.m.now (g.H.HostSide.collecting c.args.hosts.now) (g.H.HostSide.serving c.args.hosts.now) r c.loop-made.made c.loop-made.m (g.H.HostSide.calls c.args.hosts.now) (g.H.HostSide.calls c.loop-made.hosts) (c.loop-made.invariant.so_far r).so_far (c.args.fuel - c.loop-made.made) c.run_watched-ended.result.outcome (outcomes.Import c.in-Import.call) c.run_watched-ended.result.steps c.run_watched-ended.new.m (λ M k b. c.run_watched-ended.ensures.came M k b) c.in-Import.is)).so_far (g.H.HostSide.used_up c.serve_import.new.hosts) c.in-Ends.answer c.args.fuel c.serve_import.new.m (g.H.HostSide.calls c.serve_import.new.hosts) (omega (arith, lt, c.loop-made-test.true)) (c.in-Ends.ensures.turned (calling c.args.runner.now.prepared.now c.args.runner.now.source.now c.args.runner.now.depth c.args.m.now (g.H.HostSide.collecting c.args.hosts.now) (g.H.HostSide.collecting c.loop-made.hosts) (g.H.HostSide.serving c.args.hosts.now) (g.H.HostSide.serving c.loop-made.hosts) r c.loop-made.invariant.host.collecting_is c.loop-made.invariant.host.serving_is c.in-Import.call (c.loop-made.made + c.run_watched-ended.result.steps) c.run_watched-ended.new.m (g.H.HostSide.calls c.args.hosts.now) (g.H.HostSide.calls c.loop-made.hosts) (run_calls r.engine c.args.runner.now.prepared.now.codes.items r.frames r.world r.collected c.loop-made.made c.loop-made.m (g.H.HostSide.calls c.args.hosts.now) (g.H.HostSide.calls c.loop-made.hosts) (c.loop-made.invariant.so_far r).so_far c.in-Import.call (c.args.fuel - c.loop-made.made) c.run_watched-ended.result.steps c.run_watched-ended.new.m (ran c.args.runner.now.prepared.now c.args.runner.now.source.now c.args.runner.now.depth c.args.m.now (g.H.HostSide.collecting c.args.hosts.now) (g.H.HostSide.serving c.args.hosts.now) r c.loop-made.made c.loop-made.m (g.H.HostSide.calls c.args.hosts.now) (g.H.HostSide.calls c.loop-made.hosts) (c.loop-made.invariant.so_far r).so_far (c.args.fuel - c.loop-made.made) c.run_watched-ended.result.outcome (outcomes.Import c.in-Import.call) c.run_watched-ended.result.steps c.run_watched-ended.new.m (λ M k b. c.run_watched-ended.ensures.came M k b) c.in-Import.is)))))

pub returns-in-Lacking-clause-came : goal.returns-in-Lacking-clause-came
returns-in-Lacking-clause-came g c = λ r.
    let lt : c.run_watched-ended.result.steps < c.args.fuel - c.loop-made.made = (ran c.args.runner.now.prepared.now c.args.runner.now.source.now c.args.runner.now.depth c.args.m.now (g.H.HostSide.collecting c.args.hosts.now) (g.H.HostSide.serving c.args.hosts.now) c.requires.ready c.loop-made.made c.loop-made.m (g.H.HostSide.calls c.args.hosts.now) (g.H.HostSide.calls c.loop-made.hosts) (c.loop-made.invariant.so_far c.requires.ready).so_far (c.args.fuel - c.loop-made.made) c.run_watched-ended.result.outcome (outcomes.Import c.in-Import.call) c.run_watched-ended.result.steps c.run_watched-ended.new.m (λ M k b. c.run_watched-ended.ensures.came M k b) c.in-Import.is []).0 in
    let same = c.in-Lacking.ensures.turned (calling c.args.runner.now.prepared.now c.args.runner.now.source.now c.args.runner.now.depth c.args.m.now (g.H.HostSide.collecting c.args.hosts.now) (g.H.HostSide.collecting c.loop-made.hosts) (g.H.HostSide.serving c.args.hosts.now) (g.H.HostSide.serving c.loop-made.hosts) r c.loop-made.invariant.host.collecting_is c.loop-made.invariant.host.serving_is c.in-Import.call (c.loop-made.made + c.run_watched-ended.result.steps) c.run_watched-ended.new.m (g.H.HostSide.calls c.args.hosts.now) (g.H.HostSide.calls c.loop-made.hosts) (run_calls r.engine c.args.runner.now.prepared.now.codes.items r.frames r.world r.collected c.loop-made.made c.loop-made.m (g.H.HostSide.calls c.args.hosts.now) (g.H.HostSide.calls c.loop-made.hosts) (c.loop-made.invariant.so_far r).so_far c.in-Import.call (c.args.fuel - c.loop-made.made) c.run_watched-ended.result.steps c.run_watched-ended.new.m (ran c.args.runner.now.prepared.now c.args.runner.now.source.now c.args.runner.now.depth c.args.m.now (g.H.HostSide.collecting c.args.hosts.now) (g.H.HostSide.serving c.args.hosts.now) r c.loop-made.made c.loop-made.m (g.H.HostSide.calls c.args.hosts.now) (g.H.HostSide.calls c.loop-made.hosts) (c.loop-made.invariant.so_far r).so_far (c.args.fuel - c.loop-made.made) c.run_watched-ended.result.outcome (outcomes.Import c.in-Import.call) c.run_watched-ended.result.steps c.run_watched-ended.new.m (λ M k b. c.run_watched-ended.ensures.came M k b) c.in-Import.is))) in
    subst (λ (h : FunctionRun). CameWith r.engine.program c.args.runner.now.prepared.now.codes.items (g.H.HostSide.used_up c.serve_import.new.hosts) (going r.engine r.frames r.world r.collected) r.world r.collected c.args.fuel h.answer h.steps c.serve_import.new.m (g.H.HostSide.calls c.args.hosts.now) (g.H.HostSide.calls c.serve_import.new.hosts)) (sym c.ran-in-Lacking.ensures)
    (subst (λ (k : Calls). CameWith r.engine.program c.args.runner.now.prepared.now.codes.items (g.H.HostSide.used_up c.serve_import.new.hosts) (going r.engine r.frames r.world r.collected) r.world r.collected c.args.fuel answers.NoMemory (c.loop-made.made + c.run_watched-ended.result.steps) c.serve_import.new.m (g.H.HostSide.calls c.args.hosts.now) k) (sym same)
    (lacking r.engine c.args.runner.now.prepared.now.codes.items r.frames r.world r.collected (g.H.HostSide.used_up c.serve_import.new.hosts) c.args.fuel (c.loop-made.made + c.run_watched-ended.result.steps) c.run_watched-ended.new.m c.serve_import.new.m (g.H.HostSide.calls c.args.hosts.now) (g.H.HostSide.calls c.loop-made.hosts) (omega (arith, lt, c.loop-made-test.true)) (run_calls r.engine c.args.runner.now.prepared.now.codes.items r.frames r.world r.collected c.loop-made.made c.loop-made.m (g.H.HostSide.calls c.args.hosts.now) (g.H.HostSide.calls c.loop-made.hosts) (c.loop-made.invariant.so_far r).so_far c.in-Import.call (c.args.fuel - c.loop-made.made) c.run_watched-ended.result.steps c.run_watched-ended.new.m (ran c.args.runner.now.prepared.now c.args.runner.now.source.now c.args.runner.now.depth c.args.m.now (g.H.HostSide.collecting c.args.hosts.now) (g.H.HostSide.serving c.args.hosts.now) r c.loop-made.made c.loop-made.m (g.H.HostSide.calls c.args.hosts.now) (g.H.HostSide.calls c.loop-made.hosts) (c.loop-made.invariant.so_far r).so_far (c.args.fuel - c.loop-made.made) c.run_watched-ended.result.outcome (outcomes.Import c.in-Import.call) c.run_watched-ended.result.steps c.run_watched-ended.new.m (λ M k b. c.run_watched-ended.ensures.came M k b) c.in-Import.is)).so_far))

pub returns-in-Next-clause-came : goal.returns-in-Next-clause-came
returns-in-Next-clause-came g c = λ r.
    subst (λ (h : FunctionRun). CameWith r.engine.program c.args.runner.now.prepared.now.codes.items (g.H.HostSide.used_up c.loop-made.hosts) (going r.engine r.frames r.world r.collected) r.world r.collected c.args.fuel h.answer h.steps c.run_watched-ended.new.m (g.H.HostSide.calls c.args.hosts.now) (g.H.HostSide.calls c.loop-made.hosts)) (sym c.ran-in-Next.ensures)
    (run_spends r.engine c.args.runner.now.prepared.now.codes.items r.frames r.world r.collected c.loop-made.made c.loop-made.m (g.H.HostSide.calls c.args.hosts.now) (g.H.HostSide.calls c.loop-made.hosts) (c.loop-made.invariant.so_far r).so_far (g.H.HostSide.used_up c.loop-made.hosts) c.args.fuel c.run_watched-ended.result.steps c.run_watched-ended.new.m c.loop-made.invariant.within (ran c.args.runner.now.prepared.now c.args.runner.now.source.now c.args.runner.now.depth c.args.m.now (g.H.HostSide.collecting c.args.hosts.now) (g.H.HostSide.serving c.args.hosts.now) r c.loop-made.made c.loop-made.m (g.H.HostSide.calls c.args.hosts.now) (g.H.HostSide.calls c.loop-made.hosts) (c.loop-made.invariant.so_far r).so_far (c.args.fuel - c.loop-made.made) c.run_watched-ended.result.outcome outcomes.Next c.run_watched-ended.result.steps c.run_watched-ended.new.m (λ M k b. c.run_watched-ended.ensures.came M k b) c.in-Next.is))

pub overflow_add-made-in-Ended : goal.overflow_add-made-in-Ended
overflow_add-made-in-Ended g c =
    let le : c.run_watched-ended.result.steps ≤ c.args.fuel - c.loop-made.made = (ran c.args.runner.now.prepared.now c.args.runner.now.source.now c.args.runner.now.depth c.args.m.now (g.H.HostSide.collecting c.args.hosts.now) (g.H.HostSide.serving c.args.hosts.now) c.requires.ready c.loop-made.made c.loop-made.m (g.H.HostSide.calls c.args.hosts.now) (g.H.HostSide.calls c.loop-made.hosts) (c.loop-made.invariant.so_far c.requires.ready).so_far (c.args.fuel - c.loop-made.made) c.run_watched-ended.result.outcome outcomes.Ended c.run_watched-ended.result.steps c.run_watched-ended.new.m (λ M k b. c.run_watched-ended.ensures.came M k b) c.in-Ended.is []).0 in
    omega (arith, le, c.loop-made.invariant.within, c.ranges.fuel.fits)

pub returns-in-Ended-clause-came : goal.returns-in-Ended-clause-came
returns-in-Ended-clause-came g c = λ r.
    subst (λ (h : FunctionRun). CameWith r.engine.program c.args.runner.now.prepared.now.codes.items (g.H.HostSide.used_up c.loop-made.hosts) (going r.engine r.frames r.world r.collected) r.world r.collected c.args.fuel h.answer h.steps c.run_watched-ended.new.m (g.H.HostSide.calls c.args.hosts.now) (g.H.HostSide.calls c.loop-made.hosts)) (sym c.ran-in-Ended.ensures)
    (subst (λ v. CameWith r.engine.program c.args.runner.now.prepared.now.codes.items (g.H.HostSide.used_up c.loop-made.hosts) (going r.engine r.frames r.world r.collected) r.world r.collected c.args.fuel (answers.Finished v) (c.loop-made.made + c.run_watched-ended.result.steps) c.run_watched-ended.new.m (g.H.HostSide.calls c.args.hosts.now) (g.H.HostSide.calls c.loop-made.hosts)) (sym c.peek-value.ensures)
    (run_ends r.engine c.args.runner.now.prepared.now.codes.items r.frames r.world r.collected c.loop-made.made c.loop-made.m (g.H.HostSide.calls c.args.hosts.now) (g.H.HostSide.calls c.loop-made.hosts) (c.loop-made.invariant.so_far r).so_far (g.H.HostSide.used_up c.loop-made.hosts) c.args.fuel c.run_watched-ended.result.steps c.run_watched-ended.new.m c.loop-made.invariant.within (ran c.args.runner.now.prepared.now c.args.runner.now.source.now c.args.runner.now.depth c.args.m.now (g.H.HostSide.collecting c.args.hosts.now) (g.H.HostSide.serving c.args.hosts.now) r c.loop-made.made c.loop-made.m (g.H.HostSide.calls c.args.hosts.now) (g.H.HostSide.calls c.loop-made.hosts) (c.loop-made.invariant.so_far r).so_far (c.args.fuel - c.loop-made.made) c.run_watched-ended.result.outcome outcomes.Ended c.run_watched-ended.result.steps c.run_watched-ended.new.m (λ M k b. c.run_watched-ended.ensures.came M k b) c.in-Ended.is)))

pub overflow_add-made-in-Trap : goal.overflow_add-made-in-Trap
overflow_add-made-in-Trap g c =
    let le : c.run_watched-ended.result.steps ≤ c.args.fuel - c.loop-made.made = (ran c.args.runner.now.prepared.now c.args.runner.now.source.now c.args.runner.now.depth c.args.m.now (g.H.HostSide.collecting c.args.hosts.now) (g.H.HostSide.serving c.args.hosts.now) c.requires.ready c.loop-made.made c.loop-made.m (g.H.HostSide.calls c.args.hosts.now) (g.H.HostSide.calls c.loop-made.hosts) (c.loop-made.invariant.so_far c.requires.ready).so_far (c.args.fuel - c.loop-made.made) c.run_watched-ended.result.outcome (outcomes.Trap c.in-Trap.kind) c.run_watched-ended.result.steps c.run_watched-ended.new.m (λ M k b. c.run_watched-ended.ensures.came M k b) c.in-Trap.is []).0 in
    omega (arith, le, c.loop-made.invariant.within, c.ranges.fuel.fits)

pub returns-in-Trap-clause-came : goal.returns-in-Trap-clause-came
returns-in-Trap-clause-came g c = λ r.
    subst (λ (h : FunctionRun). CameWith r.engine.program c.args.runner.now.prepared.now.codes.items (g.H.HostSide.used_up c.loop-made.hosts) (going r.engine r.frames r.world r.collected) r.world r.collected c.args.fuel h.answer h.steps c.run_watched-ended.new.m (g.H.HostSide.calls c.args.hosts.now) (g.H.HostSide.calls c.loop-made.hosts)) (sym c.ran-in-Trap.ensures)
    (run_traps r.engine c.args.runner.now.prepared.now.codes.items r.frames r.world r.collected c.loop-made.made c.loop-made.m (g.H.HostSide.calls c.args.hosts.now) (g.H.HostSide.calls c.loop-made.hosts) (c.loop-made.invariant.so_far r).so_far (g.H.HostSide.used_up c.loop-made.hosts) c.in-Trap.kind c.args.fuel c.run_watched-ended.result.steps c.run_watched-ended.new.m c.loop-made.invariant.within (ran c.args.runner.now.prepared.now c.args.runner.now.source.now c.args.runner.now.depth c.args.m.now (g.H.HostSide.collecting c.args.hosts.now) (g.H.HostSide.serving c.args.hosts.now) r c.loop-made.made c.loop-made.m (g.H.HostSide.calls c.args.hosts.now) (g.H.HostSide.calls c.loop-made.hosts) (c.loop-made.invariant.so_far r).so_far (c.args.fuel - c.loop-made.made) c.run_watched-ended.result.outcome (outcomes.Trap c.in-Trap.kind) c.run_watched-ended.result.steps c.run_watched-ended.new.m (λ M k b. c.run_watched-ended.ensures.came M k b) c.in-Trap.is))

pub returns-in-NoMemory-clause-came : goal.returns-in-NoMemory-clause-came
returns-in-NoMemory-clause-came g c = λ r.
    subst (λ (h : FunctionRun). CameWith r.engine.program c.args.runner.now.prepared.now.codes.items (g.H.HostSide.used_up c.loop-made.hosts) (going r.engine r.frames r.world r.collected) r.world r.collected c.args.fuel h.answer h.steps c.run_watched-ended.new.m (g.H.HostSide.calls c.args.hosts.now) (g.H.HostSide.calls c.loop-made.hosts)) (sym c.ran-in-NoMemory.ensures)
    (lacking r.engine c.args.runner.now.prepared.now.codes.items r.frames r.world r.collected (g.H.HostSide.used_up c.loop-made.hosts) c.args.fuel c.loop-made.made c.loop-made.m c.run_watched-ended.new.m (g.H.HostSide.calls c.args.hosts.now) (g.H.HostSide.calls c.loop-made.hosts) c.loop-made.invariant.within (c.loop-made.invariant.so_far r).so_far)

pub returns-clause-came : goal.returns-clause-came
returns-clause-came g c = λ r.
    let e : c.loop-made.made ≡ c.args.fuel = omega (arith, c.loop-made.invariant.within, c.loop-made-test.false) in
    subst (λ (h : FunctionRun). CameWith r.engine.program c.args.runner.now.prepared.now.codes.items (g.H.HostSide.used_up c.loop-made.hosts) (going r.engine r.frames r.world r.collected) r.world r.collected c.args.fuel h.answer h.steps c.loop-made.m (g.H.HostSide.calls c.args.hosts.now) (g.H.HostSide.calls c.loop-made.hosts)) (sym c.ran-2.ensures)
    (spent r.engine c.args.runner.now.prepared.now.codes.items r.frames r.world r.collected (g.H.HostSide.used_up c.loop-made.hosts) c.args.fuel c.loop-made.made c.loop-made.m (g.H.HostSide.calls c.args.hosts.now) (g.H.HostSide.calls c.loop-made.hosts) e (c.loop-made.invariant.so_far r).so_far)

pub returns-in-Ends-clause-watched : goal.returns-in-Ends-clause-watched
returns-in-Ends-clause-watched g c = λ r.
    let one : c.run_watched-ended.ensures.watched.count ≡ suc c.run_watched-ended.result.steps = (subst (λ (o : Outcome). IsCount o c.run_watched-ended.result.steps c.run_watched-ended.ensures.watched.count) c.in-Import.is c.run_watched-ended.ensures.watched.is) in
    let few : c.run_watched-ended.ensures.watched.count ≤ c.args.fuel - c.loop-made.made = c.run_watched-ended.ensures.watched.few in
    let all : c.loop-made.made + c.run_watched-ended.ensures.watched.count ≡ c.loop-made.made + c.run_watched-ended.result.steps + 1 = omega (arith, one) in
    let within : c.loop-made.made + c.run_watched-ended.result.steps + 1 ≤ c.args.fuel = omega (arith, few, all, c.loop-made-test.true) in
    subst (λ (h : FunctionRun). Watched g.W.Watch.Saw r.engine.program.module_ (frames_placing r.engine r.frames r.world r.collected) c.args.fuel h.answer h.steps c.args.watch.now c.run_watched-ended.new.watch (g.H.HostSide.calls c.args.hosts.now) (g.H.HostSide.calls c.serve_import.new.hosts)) (sym c.ran.ensures)
    (watched_of g.W.Watch.Saw r.engine r.frames r.world r.collected c.args.fuel c.in-Ends.answer (c.loop-made.made + c.run_watched-ended.result.steps + 1) (c.loop-made.made + c.run_watched-ended.result.steps + 1) c.args.watch.now c.run_watched-ended.new.watch (g.H.HostSide.calls c.args.hosts.now) (g.H.HostSide.calls c.serve_import.new.hosts) (joined (c.loop-made.invariant.so_far r).so_far.asked (c.in-Ends.ensures.turned (calling c.args.runner.now.prepared.now c.args.runner.now.source.now c.args.runner.now.depth c.args.m.now (g.H.HostSide.collecting c.args.hosts.now) (g.H.HostSide.collecting c.loop-made.hosts) (g.H.HostSide.serving c.args.hosts.now) (g.H.HostSide.serving c.loop-made.hosts) r c.loop-made.invariant.host.collecting_is c.loop-made.invariant.host.serving_is c.in-Import.call (c.loop-made.made + c.run_watched-ended.result.steps) c.run_watched-ended.new.m (g.H.HostSide.calls c.args.hosts.now) (g.H.HostSide.calls c.loop-made.hosts) (run_calls r.engine c.args.runner.now.prepared.now.codes.items r.frames r.world r.collected c.loop-made.made c.loop-made.m (g.H.HostSide.calls c.args.hosts.now) (g.H.HostSide.calls c.loop-made.hosts) (c.loop-made.invariant.so_far r).so_far c.in-Import.call (c.args.fuel - c.loop-made.made) c.run_watched-ended.result.steps c.run_watched-ended.new.m (ran c.args.runner.now.prepared.now c.args.runner.now.source.now c.args.runner.now.depth c.args.m.now (g.H.HostSide.collecting c.args.hosts.now) (g.H.HostSide.serving c.args.hosts.now) r c.loop-made.made c.loop-made.m (g.H.HostSide.calls c.args.hosts.now) (g.H.HostSide.calls c.loop-made.hosts) (c.loop-made.invariant.so_far r).so_far (c.args.fuel - c.loop-made.made) c.run_watched-ended.result.outcome (outcomes.Import c.in-Import.call) c.run_watched-ended.result.steps c.run_watched-ended.new.m (λ M k b. c.run_watched-ended.ensures.came M k b) c.in-Import.is)))).asked) (grew_on (c.loop-made.invariant.so_far r).so_far.asked (c.in-Ends.ensures.turned (calling c.args.runner.now.prepared.now c.args.runner.now.source.now c.args.runner.now.depth c.args.m.now (g.H.HostSide.collecting c.args.hosts.now) (g.H.HostSide.collecting c.loop-made.hosts) (g.H.HostSide.serving c.args.hosts.now) (g.H.HostSide.serving c.loop-made.hosts) r c.loop-made.invariant.host.collecting_is c.loop-made.invariant.host.serving_is c.in-Import.call (c.loop-made.made + c.run_watched-ended.result.steps) c.run_watched-ended.new.m (g.H.HostSide.calls c.args.hosts.now) (g.H.HostSide.calls c.loop-made.hosts) (run_calls r.engine c.args.runner.now.prepared.now.codes.items r.frames r.world r.collected c.loop-made.made c.loop-made.m (g.H.HostSide.calls c.args.hosts.now) (g.H.HostSide.calls c.loop-made.hosts) (c.loop-made.invariant.so_far r).so_far c.in-Import.call (c.args.fuel - c.loop-made.made) c.run_watched-ended.result.steps c.run_watched-ended.new.m (ran c.args.runner.now.prepared.now c.args.runner.now.source.now c.args.runner.now.depth c.args.m.now (g.H.HostSide.collecting c.args.hosts.now) (g.H.HostSide.serving c.args.hosts.now) r c.loop-made.made c.loop-made.m (g.H.HostSide.calls c.args.hosts.now) (g.H.HostSide.calls c.loop-made.hosts) (c.loop-made.invariant.so_far r).so_far (c.args.fuel - c.loop-made.made) c.run_watched-ended.result.outcome (outcomes.Import c.in-Import.call) c.run_watched-ended.result.steps c.run_watched-ended.new.m (λ M k b. c.run_watched-ended.ensures.came M k b) c.in-Import.is)))).asked (g.H.HostSide.calls c.args.hosts.now) (g.H.HostSide.calls c.loop-made.hosts) (g.H.HostSide.calls c.serve_import.new.hosts) (c.loop-made.invariant.so_far r).so_far.grew (c.in-Ends.ensures.turned (calling c.args.runner.now.prepared.now c.args.runner.now.source.now c.args.runner.now.depth c.args.m.now (g.H.HostSide.collecting c.args.hosts.now) (g.H.HostSide.collecting c.loop-made.hosts) (g.H.HostSide.serving c.args.hosts.now) (g.H.HostSide.serving c.loop-made.hosts) r c.loop-made.invariant.host.collecting_is c.loop-made.invariant.host.serving_is c.in-Import.call (c.loop-made.made + c.run_watched-ended.result.steps) c.run_watched-ended.new.m (g.H.HostSide.calls c.args.hosts.now) (g.H.HostSide.calls c.loop-made.hosts) (run_calls r.engine c.args.runner.now.prepared.now.codes.items r.frames r.world r.collected c.loop-made.made c.loop-made.m (g.H.HostSide.calls c.args.hosts.now) (g.H.HostSide.calls c.loop-made.hosts) (c.loop-made.invariant.so_far r).so_far c.in-Import.call (c.args.fuel - c.loop-made.made) c.run_watched-ended.result.steps c.run_watched-ended.new.m (ran c.args.runner.now.prepared.now c.args.runner.now.source.now c.args.runner.now.depth c.args.m.now (g.H.HostSide.collecting c.args.hosts.now) (g.H.HostSide.serving c.args.hosts.now) r c.loop-made.made c.loop-made.m (g.H.HostSide.calls c.args.hosts.now) (g.H.HostSide.calls c.loop-made.hosts) (c.loop-made.invariant.so_far r).so_far (c.args.fuel - c.loop-made.made) c.run_watched-ended.result.outcome (outcomes.Import c.in-Import.call) c.run_watched-ended.result.steps c.run_watched-ended.new.m (λ M k b. c.run_watched-ended.ensures.came M k b) c.in-Import.is)))).grew) (count_same c.in-Ends.answer c.args.fuel (c.loop-made.made + c.run_watched-ended.result.steps + 1) within) (subst (λ n. Seen g.W.Watch.Saw r.engine r.frames r.world r.collected (joined (c.loop-made.invariant.so_far r).so_far.asked (c.in-Ends.ensures.turned (calling c.args.runner.now.prepared.now c.args.runner.now.source.now c.args.runner.now.depth c.args.m.now (g.H.HostSide.collecting c.args.hosts.now) (g.H.HostSide.collecting c.loop-made.hosts) (g.H.HostSide.serving c.args.hosts.now) (g.H.HostSide.serving c.loop-made.hosts) r c.loop-made.invariant.host.collecting_is c.loop-made.invariant.host.serving_is c.in-Import.call (c.loop-made.made + c.run_watched-ended.result.steps) c.run_watched-ended.new.m (g.H.HostSide.calls c.args.hosts.now) (g.H.HostSide.calls c.loop-made.hosts) (run_calls r.engine c.args.runner.now.prepared.now.codes.items r.frames r.world r.collected c.loop-made.made c.loop-made.m (g.H.HostSide.calls c.args.hosts.now) (g.H.HostSide.calls c.loop-made.hosts) (c.loop-made.invariant.so_far r).so_far c.in-Import.call (c.args.fuel - c.loop-made.made) c.run_watched-ended.result.steps c.run_watched-ended.new.m (ran c.args.runner.now.prepared.now c.args.runner.now.source.now c.args.runner.now.depth c.args.m.now (g.H.HostSide.collecting c.args.hosts.now) (g.H.HostSide.serving c.args.hosts.now) r c.loop-made.made c.loop-made.m (g.H.HostSide.calls c.args.hosts.now) (g.H.HostSide.calls c.loop-made.hosts) (c.loop-made.invariant.so_far r).so_far (c.args.fuel - c.loop-made.made) c.run_watched-ended.result.outcome (outcomes.Import c.in-Import.call) c.run_watched-ended.result.steps c.run_watched-ended.new.m (λ M k b. c.run_watched-ended.ensures.came M k b) c.in-Import.is)))).asked) n c.args.watch.now c.run_watched-ended.new.watch) all (seen_more g.W.Watch.Saw r.engine r.frames r.world r.collected (c.loop-made.invariant.so_far r).so_far.asked (c.in-Ends.ensures.turned (calling c.args.runner.now.prepared.now c.args.runner.now.source.now c.args.runner.now.depth c.args.m.now (g.H.HostSide.collecting c.args.hosts.now) (g.H.HostSide.collecting c.loop-made.hosts) (g.H.HostSide.serving c.args.hosts.now) (g.H.HostSide.serving c.loop-made.hosts) r c.loop-made.invariant.host.collecting_is c.loop-made.invariant.host.serving_is c.in-Import.call (c.loop-made.made + c.run_watched-ended.result.steps) c.run_watched-ended.new.m (g.H.HostSide.calls c.args.hosts.now) (g.H.HostSide.calls c.loop-made.hosts) (run_calls r.engine c.args.runner.now.prepared.now.codes.items r.frames r.world r.collected c.loop-made.made c.loop-made.m (g.H.HostSide.calls c.args.hosts.now) (g.H.HostSide.calls c.loop-made.hosts) (c.loop-made.invariant.so_far r).so_far c.in-Import.call (c.args.fuel - c.loop-made.made) c.run_watched-ended.result.steps c.run_watched-ended.new.m (ran c.args.runner.now.prepared.now c.args.runner.now.source.now c.args.runner.now.depth c.args.m.now (g.H.HostSide.collecting c.args.hosts.now) (g.H.HostSide.serving c.args.hosts.now) r c.loop-made.made c.loop-made.m (g.H.HostSide.calls c.args.hosts.now) (g.H.HostSide.calls c.loop-made.hosts) (c.loop-made.invariant.so_far r).so_far (c.args.fuel - c.loop-made.made) c.run_watched-ended.result.outcome (outcomes.Import c.in-Import.call) c.run_watched-ended.result.steps c.run_watched-ended.new.m (λ M k b. c.run_watched-ended.ensures.came M k b) c.in-Import.is)))).asked (c.loop-made.made + c.run_watched-ended.ensures.watched.count) c.args.watch.now c.run_watched-ended.new.watch (seen_on g.W.Watch.Saw r.engine r.frames r.world r.collected c.args.runner.now.prepared.now c.args.runner.now.depth c.loop-made.made c.loop-made.m (g.H.HostSide.calls c.args.hosts.now) (g.H.HostSide.calls c.loop-made.hosts) (c.loop-made.invariant.so_far r).so_far c.run_watched-ended.ensures.watched.count c.args.watch.now c.loop-made.watch c.run_watched-ended.new.watch (λ more. begins_there r.engine c.args.runner.now.prepared.now c.args.runner.now.depth r.frames r.world r.collected c.args.m.now r.begins c.loop-made.made c.loop-made.m (c.loop-made.invariant.so_far r).so_far.asked more ((c.loop-made.invariant.so_far r).so_far.reaches more)) (c.loop-made.invariant.so_far r).seen c.run_watched-ended.ensures.watched.seen))))

pub returns-in-Lacking-clause-watched : goal.returns-in-Lacking-clause-watched
returns-in-Lacking-clause-watched g c = λ r.
    let few : c.run_watched-ended.ensures.watched.count ≤ c.args.fuel - c.loop-made.made = c.run_watched-ended.ensures.watched.few in
    let within : c.loop-made.made + c.run_watched-ended.ensures.watched.count ≤ c.args.fuel = omega (arith, few, c.loop-made-test.true) in
    let same = c.in-Lacking.ensures.turned (calling c.args.runner.now.prepared.now c.args.runner.now.source.now c.args.runner.now.depth c.args.m.now (g.H.HostSide.collecting c.args.hosts.now) (g.H.HostSide.collecting c.loop-made.hosts) (g.H.HostSide.serving c.args.hosts.now) (g.H.HostSide.serving c.loop-made.hosts) r c.loop-made.invariant.host.collecting_is c.loop-made.invariant.host.serving_is c.in-Import.call (c.loop-made.made + c.run_watched-ended.result.steps) c.run_watched-ended.new.m (g.H.HostSide.calls c.args.hosts.now) (g.H.HostSide.calls c.loop-made.hosts) (run_calls r.engine c.args.runner.now.prepared.now.codes.items r.frames r.world r.collected c.loop-made.made c.loop-made.m (g.H.HostSide.calls c.args.hosts.now) (g.H.HostSide.calls c.loop-made.hosts) (c.loop-made.invariant.so_far r).so_far c.in-Import.call (c.args.fuel - c.loop-made.made) c.run_watched-ended.result.steps c.run_watched-ended.new.m (ran c.args.runner.now.prepared.now c.args.runner.now.source.now c.args.runner.now.depth c.args.m.now (g.H.HostSide.collecting c.args.hosts.now) (g.H.HostSide.serving c.args.hosts.now) r c.loop-made.made c.loop-made.m (g.H.HostSide.calls c.args.hosts.now) (g.H.HostSide.calls c.loop-made.hosts) (c.loop-made.invariant.so_far r).so_far (c.args.fuel - c.loop-made.made) c.run_watched-ended.result.outcome (outcomes.Import c.in-Import.call) c.run_watched-ended.result.steps c.run_watched-ended.new.m (λ M k b. c.run_watched-ended.ensures.came M k b) c.in-Import.is))) in
    subst (λ (h : FunctionRun). Watched g.W.Watch.Saw r.engine.program.module_ (frames_placing r.engine r.frames r.world r.collected) c.args.fuel h.answer h.steps c.args.watch.now c.run_watched-ended.new.watch (g.H.HostSide.calls c.args.hosts.now) (g.H.HostSide.calls c.serve_import.new.hosts)) (sym c.ran-in-Lacking.ensures)
    (subst (λ (k : Calls). Watched g.W.Watch.Saw r.engine.program.module_ (frames_placing r.engine r.frames r.world r.collected) c.args.fuel answers.NoMemory (c.loop-made.made + c.run_watched-ended.result.steps) c.args.watch.now c.run_watched-ended.new.watch (g.H.HostSide.calls c.args.hosts.now) k) (sym same)
    (watched_of g.W.Watch.Saw r.engine r.frames r.world r.collected c.args.fuel answers.NoMemory (c.loop-made.made + c.run_watched-ended.result.steps) (c.loop-made.made + c.run_watched-ended.ensures.watched.count) c.args.watch.now c.run_watched-ended.new.watch (g.H.HostSide.calls c.args.hosts.now) (g.H.HostSide.calls c.loop-made.hosts) (c.loop-made.invariant.so_far r).so_far.asked (c.loop-made.invariant.so_far r).so_far.grew within (seen_on g.W.Watch.Saw r.engine r.frames r.world r.collected c.args.runner.now.prepared.now c.args.runner.now.depth c.loop-made.made c.loop-made.m (g.H.HostSide.calls c.args.hosts.now) (g.H.HostSide.calls c.loop-made.hosts) (c.loop-made.invariant.so_far r).so_far c.run_watched-ended.ensures.watched.count c.args.watch.now c.loop-made.watch c.run_watched-ended.new.watch (λ more. begins_there r.engine c.args.runner.now.prepared.now c.args.runner.now.depth r.frames r.world r.collected c.args.m.now r.begins c.loop-made.made c.loop-made.m (c.loop-made.invariant.so_far r).so_far.asked more ((c.loop-made.invariant.so_far r).so_far.reaches more)) (c.loop-made.invariant.so_far r).seen c.run_watched-ended.ensures.watched.seen)))

pub returns-in-Next-clause-watched : goal.returns-in-Next-clause-watched
returns-in-Next-clause-watched g c = λ r.
    let one : c.run_watched-ended.ensures.watched.count ≡ c.run_watched-ended.result.steps = (subst (λ (o : Outcome). IsCount o c.run_watched-ended.result.steps c.run_watched-ended.ensures.watched.count) c.in-Next.is c.run_watched-ended.ensures.watched.is) in
    let rest : c.run_watched-ended.result.steps ≡ c.args.fuel - c.loop-made.made = ((ran c.args.runner.now.prepared.now c.args.runner.now.source.now c.args.runner.now.depth c.args.m.now (g.H.HostSide.collecting c.args.hosts.now) (g.H.HostSide.serving c.args.hosts.now) r c.loop-made.made c.loop-made.m (g.H.HostSide.calls c.args.hosts.now) (g.H.HostSide.calls c.loop-made.hosts) (c.loop-made.invariant.so_far r).so_far (c.args.fuel - c.loop-made.made) c.run_watched-ended.result.outcome outcomes.Next c.run_watched-ended.result.steps c.run_watched-ended.new.m (λ M k b. c.run_watched-ended.ensures.came M k b) c.in-Next.is) []).0 in
    let all : c.loop-made.made + c.run_watched-ended.ensures.watched.count ≡ c.args.fuel = omega (arith, one, rest, c.loop-made-test.true) in
    subst (λ (h : FunctionRun). Watched g.W.Watch.Saw r.engine.program.module_ (frames_placing r.engine r.frames r.world r.collected) c.args.fuel h.answer h.steps c.args.watch.now c.run_watched-ended.new.watch (g.H.HostSide.calls c.args.hosts.now) (g.H.HostSide.calls c.loop-made.hosts)) (sym c.ran-in-Next.ensures)
    (watched_of g.W.Watch.Saw r.engine r.frames r.world r.collected c.args.fuel answers.FuelSpent c.args.fuel (c.loop-made.made + c.run_watched-ended.ensures.watched.count) c.args.watch.now c.run_watched-ended.new.watch (g.H.HostSide.calls c.args.hosts.now) (g.H.HostSide.calls c.loop-made.hosts) (c.loop-made.invariant.so_far r).so_far.asked (c.loop-made.invariant.so_far r).so_far.grew all (seen_on g.W.Watch.Saw r.engine r.frames r.world r.collected c.args.runner.now.prepared.now c.args.runner.now.depth c.loop-made.made c.loop-made.m (g.H.HostSide.calls c.args.hosts.now) (g.H.HostSide.calls c.loop-made.hosts) (c.loop-made.invariant.so_far r).so_far c.run_watched-ended.ensures.watched.count c.args.watch.now c.loop-made.watch c.run_watched-ended.new.watch (λ more. begins_there r.engine c.args.runner.now.prepared.now c.args.runner.now.depth r.frames r.world r.collected c.args.m.now r.begins c.loop-made.made c.loop-made.m (c.loop-made.invariant.so_far r).so_far.asked more ((c.loop-made.invariant.so_far r).so_far.reaches more)) (c.loop-made.invariant.so_far r).seen c.run_watched-ended.ensures.watched.seen))

pub returns-in-Ended-clause-watched : goal.returns-in-Ended-clause-watched
returns-in-Ended-clause-watched g c = λ r.
    let one : c.run_watched-ended.ensures.watched.count ≡ c.run_watched-ended.result.steps = (subst (λ (o : Outcome). IsCount o c.run_watched-ended.result.steps c.run_watched-ended.ensures.watched.count) c.in-Ended.is c.run_watched-ended.ensures.watched.is) in
    let all : c.loop-made.made + c.run_watched-ended.ensures.watched.count ≡ c.loop-made.made + c.run_watched-ended.result.steps = omega (arith, one) in
    subst (λ (h : FunctionRun). Watched g.W.Watch.Saw r.engine.program.module_ (frames_placing r.engine r.frames r.world r.collected) c.args.fuel h.answer h.steps c.args.watch.now c.run_watched-ended.new.watch (g.H.HostSide.calls c.args.hosts.now) (g.H.HostSide.calls c.loop-made.hosts)) (sym c.ran-in-Ended.ensures)
    (watched_of g.W.Watch.Saw r.engine r.frames r.world r.collected c.args.fuel (answers.Finished c.peek-value.result) (c.loop-made.made + c.run_watched-ended.result.steps) (c.loop-made.made + c.run_watched-ended.ensures.watched.count) c.args.watch.now c.run_watched-ended.new.watch (g.H.HostSide.calls c.args.hosts.now) (g.H.HostSide.calls c.loop-made.hosts) (c.loop-made.invariant.so_far r).so_far.asked (c.loop-made.invariant.so_far r).so_far.grew all (seen_on g.W.Watch.Saw r.engine r.frames r.world r.collected c.args.runner.now.prepared.now c.args.runner.now.depth c.loop-made.made c.loop-made.m (g.H.HostSide.calls c.args.hosts.now) (g.H.HostSide.calls c.loop-made.hosts) (c.loop-made.invariant.so_far r).so_far c.run_watched-ended.ensures.watched.count c.args.watch.now c.loop-made.watch c.run_watched-ended.new.watch (λ more. begins_there r.engine c.args.runner.now.prepared.now c.args.runner.now.depth r.frames r.world r.collected c.args.m.now r.begins c.loop-made.made c.loop-made.m (c.loop-made.invariant.so_far r).so_far.asked more ((c.loop-made.invariant.so_far r).so_far.reaches more)) (c.loop-made.invariant.so_far r).seen c.run_watched-ended.ensures.watched.seen))

pub returns-in-Trap-clause-watched : goal.returns-in-Trap-clause-watched
returns-in-Trap-clause-watched g c = λ r.
    let one : c.run_watched-ended.ensures.watched.count ≡ c.run_watched-ended.result.steps = (subst (λ (o : Outcome). IsCount o c.run_watched-ended.result.steps c.run_watched-ended.ensures.watched.count) c.in-Trap.is c.run_watched-ended.ensures.watched.is) in
    let all : c.loop-made.made + c.run_watched-ended.ensures.watched.count ≡ c.loop-made.made + c.run_watched-ended.result.steps = omega (arith, one) in
    subst (λ (h : FunctionRun). Watched g.W.Watch.Saw r.engine.program.module_ (frames_placing r.engine r.frames r.world r.collected) c.args.fuel h.answer h.steps c.args.watch.now c.run_watched-ended.new.watch (g.H.HostSide.calls c.args.hosts.now) (g.H.HostSide.calls c.loop-made.hosts)) (sym c.ran-in-Trap.ensures)
    (watched_of g.W.Watch.Saw r.engine r.frames r.world r.collected c.args.fuel (answers.Trapped c.in-Trap.kind) (c.loop-made.made + c.run_watched-ended.result.steps) (c.loop-made.made + c.run_watched-ended.ensures.watched.count) c.args.watch.now c.run_watched-ended.new.watch (g.H.HostSide.calls c.args.hosts.now) (g.H.HostSide.calls c.loop-made.hosts) (c.loop-made.invariant.so_far r).so_far.asked (c.loop-made.invariant.so_far r).so_far.grew all (seen_on g.W.Watch.Saw r.engine r.frames r.world r.collected c.args.runner.now.prepared.now c.args.runner.now.depth c.loop-made.made c.loop-made.m (g.H.HostSide.calls c.args.hosts.now) (g.H.HostSide.calls c.loop-made.hosts) (c.loop-made.invariant.so_far r).so_far c.run_watched-ended.ensures.watched.count c.args.watch.now c.loop-made.watch c.run_watched-ended.new.watch (λ more. begins_there r.engine c.args.runner.now.prepared.now c.args.runner.now.depth r.frames r.world r.collected c.args.m.now r.begins c.loop-made.made c.loop-made.m (c.loop-made.invariant.so_far r).so_far.asked more ((c.loop-made.invariant.so_far r).so_far.reaches more)) (c.loop-made.invariant.so_far r).seen c.run_watched-ended.ensures.watched.seen))

pub returns-in-NoMemory-clause-watched : goal.returns-in-NoMemory-clause-watched
returns-in-NoMemory-clause-watched g c = λ r.
    let few : c.run_watched-ended.ensures.watched.count ≤ c.args.fuel - c.loop-made.made = c.run_watched-ended.ensures.watched.few in
    let within : c.loop-made.made + c.run_watched-ended.ensures.watched.count ≤ c.args.fuel = omega (arith, few, c.loop-made-test.true) in
    subst (λ (h : FunctionRun). Watched g.W.Watch.Saw r.engine.program.module_ (frames_placing r.engine r.frames r.world r.collected) c.args.fuel h.answer h.steps c.args.watch.now c.run_watched-ended.new.watch (g.H.HostSide.calls c.args.hosts.now) (g.H.HostSide.calls c.loop-made.hosts)) (sym c.ran-in-NoMemory.ensures)
    (watched_of g.W.Watch.Saw r.engine r.frames r.world r.collected c.args.fuel answers.NoMemory c.loop-made.made (c.loop-made.made + c.run_watched-ended.ensures.watched.count) c.args.watch.now c.run_watched-ended.new.watch (g.H.HostSide.calls c.args.hosts.now) (g.H.HostSide.calls c.loop-made.hosts) (c.loop-made.invariant.so_far r).so_far.asked (c.loop-made.invariant.so_far r).so_far.grew within (seen_on g.W.Watch.Saw r.engine r.frames r.world r.collected c.args.runner.now.prepared.now c.args.runner.now.depth c.loop-made.made c.loop-made.m (g.H.HostSide.calls c.args.hosts.now) (g.H.HostSide.calls c.loop-made.hosts) (c.loop-made.invariant.so_far r).so_far c.run_watched-ended.ensures.watched.count c.args.watch.now c.loop-made.watch c.run_watched-ended.new.watch (λ more. begins_there r.engine c.args.runner.now.prepared.now c.args.runner.now.depth r.frames r.world r.collected c.args.m.now r.begins c.loop-made.made c.loop-made.m (c.loop-made.invariant.so_far r).so_far.asked more ((c.loop-made.invariant.so_far r).so_far.reaches more)) (c.loop-made.invariant.so_far r).seen c.run_watched-ended.ensures.watched.seen))

pub returns-clause-watched : goal.returns-clause-watched
returns-clause-watched g c = λ r.
    let e : c.loop-made.made ≡ c.args.fuel = omega (arith, c.loop-made.invariant.within, c.loop-made-test.false) in
    subst (λ (h : FunctionRun). Watched g.W.Watch.Saw r.engine.program.module_ (frames_placing r.engine r.frames r.world r.collected) c.args.fuel h.answer h.steps c.args.watch.now c.loop-made.watch (g.H.HostSide.calls c.args.hosts.now) (g.H.HostSide.calls c.loop-made.hosts)) (sym c.ran-2.ensures)
    (watched_of g.W.Watch.Saw r.engine r.frames r.world r.collected c.args.fuel answers.FuelSpent c.args.fuel c.loop-made.made c.args.watch.now c.loop-made.watch (g.H.HostSide.calls c.args.hosts.now) (g.H.HostSide.calls c.loop-made.hosts) (c.loop-made.invariant.so_far r).so_far.asked (c.loop-made.invariant.so_far r).so_far.grew e (c.loop-made.invariant.so_far r).seen)
