use Rattle.std.proofs.Common.{◌≤◌, ◌-◌, take}
use Rattle.rewrite_bodies.specs.calls.Rewrite.{hand_top}
use Rattle.rewrite_code.specs.calls.Writing.{Emits}
use Rattle.rewrite_code.specs.calls.Places.{from_top}
use Rattle.unwind_rewrite.proofs.left.hand_under.Given as goal

abbrev pub invariant-loop-height : goal.invariant-loop-height
invariant-loop-height l = record {
  before : l.height ≤ l.kept;
  so_far : Emits (hand_top l.fn.context (l.height - 0) (from_top (take l.height l.operands))) l.fn.writer l.writer;
}
