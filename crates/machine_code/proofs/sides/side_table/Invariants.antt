use Rattle.std.proofs.Common.{◌≡◌, ℕ, ◌≤◌, List, length, drop, reverse}
use Rattle.wasm_syntax.specs.Tree.{code_of}
use Rattle.machine_code.specs.inner.Sides.{Scan, scan}
use Rattle.machine_code.proofs.sides.side_table.Given as goal

abbrev pub invariant-loop-index : goal.invariant-loop-index
invariant-loop-index l = record {
  within : l.index ≤ length l.ops;
  so_far : ((targets : List ℕ) → (let s : Scan = record { opens = l.opens; sides = reverse l.sides.items } in s ≡ scan l.index (code_of targets (drop l.index l.ops))));
}

abbrev pub decreases-loop-index : goal.decreases-loop-index
decreases-loop-index l = l.index
