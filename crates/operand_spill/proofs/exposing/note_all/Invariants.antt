use Rattle.std.proofs.Common.{◌≡◌, ◌-◌, ℕ, List, length, drop}
use Rattle.wasm_syntax.specs.Tree.{code_of}
use Rattle.operand_spill.specs.inner.Exposing.{held, exposed_along}
use Rattle.operand_spill.proofs.exposing.note_all.Given as goal

abbrev pub invariant-loop-pc : goal.invariant-loop-pc
invariant-loop-pc l =
    (targets : List ℕ) → exposed_along (held l.marks) l.knowing (drop l.pc (code_of targets l.ops)) l.found ≡ exposed_along (held l.marks) l.initial.knowing (code_of targets l.ops) l.initial.found

abbrev pub decreases-loop-pc : goal.decreases-loop-pc
decreases-loop-pc l = length l.ops - l.pc
