use Rattle.std.proofs.Common.{◌≤◌, ◌-◌}
use Rattle.machine_steps.specs.inner.Turns.{Made}
use Rattle.machine_steps.proofs.runs.run_watched.Given as goal

abbrev pub invariant-loop-made : goal.invariant-loop-made
invariant-loop-made g l = record {
  few : l.made ≤ l.fuel;
  so_far : Made g.W.Watch.Saw l.prepared l.depth l.initial.m l.initial.watch l.made l.m l.watch;
}

abbrev pub decreases-loop-made : goal.decreases-loop-made
decreases-loop-made g l = l.fuel - l.made
