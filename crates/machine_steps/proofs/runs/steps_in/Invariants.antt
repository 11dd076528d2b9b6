use Rattle.std.proofs.Common.{◌≡◌, ◌≤◌, ◌-◌}
use Rattle.std.specs.Prelude.{slice_get, Some}
use Rattle.machine_steps.specs.declared.machine.Machine.{Machine}
use Rattle.machine_steps.specs.inner.Turns.{Made}
use Rattle.machine_steps.proofs.runs.steps_in.Given as goal

abbrev pub invariant-loop-left : goal.invariant-loop-left
invariant-loop-left g l = record {
  few : l.left ≤ l.fn.steps.fuel - l.fn.steps.made;
  frame : slice_get l.m.stack.frames 0 ≡ Some l.fn.innermost.frame;
  so_far : (first : Machine) (before : _) → Made g.W.Watch.Saw l.prepared l.depth first before l.fn.steps.made l.initial.m l.initial.watch → Made g.W.Watch.Saw l.prepared l.depth first before (l.fn.steps.fuel - l.left) l.m l.watch;
}

abbrev pub decreases-loop-left : goal.decreases-loop-left
decreases-loop-left g l = l.left
