use Rattle.std.proofs.Common.{◌≡◌, ◌≤◌, ◌-◌}
use Rattle.machine_steps.specs.inner.Cells.{cells_run}
use Rattle.machine_steps.proofs.tally.count_from.Given as goal

abbrev pub invariant-loop-index : goal.invariant-loop-index
invariant-loop-index l = record {
  from : l.start ≤ l.index;
  few : l.index - l.start ≤ l.end - l.start;
  so_far : l.cells ≡ cells_run l.initial.cells l.start (l.index - l.start);
}

abbrev pub decreases-loop-index : goal.decreases-loop-index
decreases-loop-index l = l.end - l.index
