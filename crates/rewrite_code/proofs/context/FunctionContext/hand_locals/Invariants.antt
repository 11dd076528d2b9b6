use Rattle.std.proofs.Common.{◌≡◌, ◌≤◌, List, length, drop}
use Rattle.wasm_syntax.specs.Tree.{Nodes}
use Rattle.rewrite_bodies.specs.calls.Rewrite.{hand_locals}
use Rattle.rewrite_code.specs.calls.Writing.{Behind, goes}
use Rattle.rewrite_code.proofs.context.FunctionContext.hand_locals.Given as goal

abbrev pub invariant-loop-x : goal.invariant-loop-x
invariant-loop-x l = record {
  same : l.self ≡ l.fn.self;
  before : l.x ≤ length l.types;
  so_far : (k : Nodes) (behind : List Behind) → goes l.fn.writer (hand_locals l.fn.self 0 l.types k) behind ≡ goes l.writer (hand_locals l.fn.self l.x (drop l.x l.types) k) behind;
}
