use Rattle.std.proofs.Common.{◌-◌, ◌≤◌}
use Rattle.machine_hosted.specs.calls.Settings.{HostKept}
use Rattle.machine_hosted.specs.inner.Turns.{Ready}
use Rattle.machine_hosted.proofs.WatchLaws.{SeenSoFar}
use Rattle.machine_hosted.proofs.watched_run.watch_frames.Given as goal

abbrev pub invariant-loop-made : goal.invariant-loop-made
invariant-loop-made g l = record {
  within : l.made ≤ l.fuel;
  so_far : (r : Ready l.runner.prepared.now l.runner.source.now l.runner.depth l.initial.m (g.H.HostSide.collecting l.initial.hosts) (g.H.HostSide.serving l.initial.hosts)) → SeenSoFar g.W.Watch.Saw r.engine r.frames r.world r.collected l.runner.prepared.now.codes.items l.made l.m (g.H.HostSide.calls l.initial.hosts) (g.H.HostSide.calls l.hosts) l.initial.watch l.watch;
  host : HostKept g.H.HostSide.origin g.H.HostSide.collecting g.H.HostSide.serving g.H.HostSide.fault_count l.initial.hosts l.hosts;
}

abbrev pub decreases-loop-made : goal.decreases-loop-made
decreases-loop-made g l = l.fuel - l.made
