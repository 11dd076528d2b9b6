use Rattle.std.proofs.Common.{◌≤◌}
use Rattle.rewrite_bodies.specs.calls.Pieces.{drops}
use Rattle.rewrite_code.specs.calls.Writing.{Emits}
use Rattle.rewrite_code.proofs.moves.drops.Given as goal

abbrev pub invariant-loop-i : goal.invariant-loop-i
invariant-loop-i l = record {
  before : l._i ≤ l.count;
  so_far : Emits (drops l._i) l.fn.writer l.writer;
}
