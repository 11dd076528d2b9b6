use Rattle.std.proofs.Common.{◌≡◌, ℕ, zero, ◌-◌, ◌≤◌, List, length, drop}
use Rattle.wasm_syntax.specs.Tree.{code_of}
use Rattle.operand_spill.specs.calls.Standing.{skip}
use Rattle.operand_spill.proofs.skip.end_of_list.Given as goal

abbrev pub invariant-loop-i : goal.invariant-loop-i
invariant-loop-i l = record {
  forward : l.fn.from ≤ l.i;
  within : (l.fn.from ≤ length l.ops → l.i ≤ length l.ops);
  shallow : l.depth ≤ l.i - l.fn.from;
  so_far : ((targets : List ℕ) → skip zero (drop l.fn.from (code_of targets l.ops)) ≡ skip l.depth (drop l.i (code_of targets l.ops)));
}

abbrev pub decreases-loop-i : goal.decreases-loop-i
decreases-loop-i l = length l.ops - l.i
