use Rattle.std.proofs.Common.{◌≡◌, ◌-◌, ℕ, List, length, drop}
use Rattle.wasm_syntax.specs.Tree.{Tree, Writes, code_of}
use Rattle.rewrite_bodies.specs.calls.Derived.{places}
use Rattle.operand_spill.specs.inner.Deriving.{often, at_places, times_along}
use Rattle.operand_spill.proofs.times.times_written.Given as goal

abbrev pub invariant-loop-pc : goal.invariant-loop-pc
invariant-loop-pc l = (targets : List ℕ) (tree : Tree) → Writes targets l.ops tree → (x : ℕ) → times_along (drop l.pc (code_of targets l.ops)) x (often l.times x) ≡ at_places (places tree.nodes x)

abbrev pub decreases-loop-pc : goal.decreases-loop-pc
decreases-loop-pc l = length l.ops - l.pc
