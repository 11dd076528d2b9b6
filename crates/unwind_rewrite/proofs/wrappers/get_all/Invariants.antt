use Rattle.std.proofs.Common.{◌≡◌, ◌≤◌, ◌-◌, List}
use Rattle.wasm_syntax.specs.Tree.{Nodes}
use Rattle.rewrite_modules.specs.calls.Wrappers.{get_all}
use Rattle.rewrite_code.specs.calls.Writing.{Behind, goes}
use Rattle.unwind_rewrite.proofs.wrappers.get_all.Given as goal

abbrev pub invariant-loop-x : goal.invariant-loop-x
invariant-loop-x l = record {
  before : l.x ≤ l.count;
  so_far : (k : Nodes) (behind : List Behind) → goes l.fn.writer (get_all 0 l.count k) behind ≡ goes l.writer (get_all l.x (l.count - l.x) k) behind;
}
