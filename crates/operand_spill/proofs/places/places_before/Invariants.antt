use Rattle.std.proofs.Common.{◌≡◌, ◌<◌, ℕ, ◌-◌, List, None}
use Rattle.wasm_syntax.specs.Tree.{Tree, Writes, code_of}
use Rattle.rewrite_bodies.specs.calls.Slots.{Ctx}
use Rattle.operand_spill.specs.calls.Before.{before}
use Rattle.operand_spill.specs.inner.Knowing.{Proceeds}
use Rattle.operand_spill.proofs.places.places_before.Given as goal

abbrev pub invariant-loop-pc : goal.invariant-loop-pc
invariant-loop-pc l =
    (C : Ctx) (targets : List ℕ) (tree : Tree) → C.locals ≡ l.locals → C.source ≡ l.source → Writes targets l.ops tree →
    (l.op < l.pc → before C tree.nodes l.op ≡ None) × Proceeds C (code_of targets l.ops) (before C tree.nodes) l.pc l.walk

abbrev pub decreases-loop-pc : goal.decreases-loop-pc
decreases-loop-pc l = l.bound - l.pc
