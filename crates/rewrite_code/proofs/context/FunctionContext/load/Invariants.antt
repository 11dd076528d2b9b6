use Rattle.std.proofs.Common.{◌≡◌, ◌≤◌, ◌-◌, length, take}
use Rattle.rewrite_bodies.specs.calls.Pieces.{load}
use Rattle.rewrite_code.specs.calls.Writing.{Emits}
use Rattle.rewrite_code.specs.calls.Places.{from_top}
use Rattle.rewrite_code.proofs.context.FunctionContext.load.Given as goal

abbrev pub invariant-loop-height : goal.invariant-loop-height
invariant-loop-height l = record {
  same : l.self ≡ l.fn.self;
  after : l.first ≤ l.height;
  before : l.height ≤ length l.operands;
  so_far : Emits (load l.fn.self (l.height - l.first) (from_top (take l.height l.operands))) l.fn.writer l.writer;
}
