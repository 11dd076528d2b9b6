use Rattle.std.proofs.Common.{◌≡◌, ◌≤◌, List, drop}
use Rattle.wasm_syntax.specs.Tree.{Nodes}
use Rattle.rewrite_bodies.specs.Numbering.{global_types}
use Rattle.rewrite_modules.specs.calls.Wrappers.{tell_globals}
use Rattle.rewrite_code.specs.calls.Writing.{Behind, goes}
use Rattle.unwind_rewrite.proofs.wrappers.tell_globals.Given as goal

abbrev pub invariant-loop-x : goal.invariant-loop-x
invariant-loop-x l = record {
  before : l.x ≤ l.count;
  so_far : (k : Nodes) (behind : List Behind) → goes l.fn.writer (tell_globals l.fn.map 0 (global_types l.fn.map) k) behind ≡ goes l.writer (tell_globals l.fn.map l.x (drop l.x (global_types l.fn.map)) k) behind;
}
