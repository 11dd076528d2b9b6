use Rattle.std.proofs.Common.{◌≡◌, ◌≤◌, ◌-◌, ℕ, List, length, drop}
use Rattle.wasm_syntax.specs.Tree.{Tree, Writes, code_of}
use Rattle.rewrite_bodies.specs.calls.Facts.{frail}
use Rattle.operand_spill.specs.inner.Exposing.{held, marked_along}
use Rattle.operand_spill.proofs.exposing.written_in_blocks.Given as goal

abbrev pub invariant-loop-pc : goal.invariant-loop-pc
invariant-loop-pc l = record {
  low : l.depth ≤ l.pc;
  marked : (targets : List ℕ) (tree : Tree) → Writes targets l.ops tree → (x : ℕ) → marked_along l.depth (drop l.pc (code_of targets l.ops)) x (held l.marks x) ≡ frail tree.nodes x;
}

abbrev pub decreases-loop-pc : goal.decreases-loop-pc
decreases-loop-pc l = length l.ops - l.pc
