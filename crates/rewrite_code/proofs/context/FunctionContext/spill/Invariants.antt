use Rattle.std.proofs.Common.{◌≡◌, ◌≤◌, take}
use Rattle.rewrite_bodies.specs.calls.Pieces.{spill}
use Rattle.rewrite_code.specs.calls.Writing.{Emits}
use Rattle.rewrite_code.specs.calls.Places.{from_top, these}
use Rattle.rewrite_code.proofs.context.FunctionContext.spill.Given as goal

abbrev pub invariant-loop-height : goal.invariant-loop-height
invariant-loop-height l = record {
  same : l.self ≡ l.fn.self;
  before : l.height ≤ l.under;
  so_far : Emits (spill l.fn.self (these l.meant) (from_top (take l.height l.operands))) l.fn.writer l.writer;
}
