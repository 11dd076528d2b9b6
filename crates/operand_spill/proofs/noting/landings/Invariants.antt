use Rattle.std.proofs.Common.{◌≡◌, ℕ, ◌-◌, List, [], length}
use Rattle.wasm_syntax.specs.Tree.{Tree, Writes, code_of}
use Rattle.rewrite_bodies.specs.calls.Slots.{Ctx}
use Rattle.rewrite_bodies.specs.calls.Landings.{landings_from}
use Rattle.operand_spill.specs.calls.Before.{before}
use Rattle.operand_spill.specs.inner.Knowing.{Proceeds}
use Rattle.operand_spill.proofs.Gathered.{Gathers}
use Rattle.operand_spill.proofs.noting.landings.Given as goal

abbrev pub invariant-loop-pc : goal.invariant-loop-pc
invariant-loop-pc l =
    (C : Ctx) (targets : List ℕ) (tree : Tree) → C.locals ≡ l.locals → C.source ≡ l.source → C.exposed ≡ l.exposed → Writes targets l.ops tree →
    Gathers C (code_of targets l.ops) (before C tree.nodes) l.pc l.found (landings_from C [] tree.nodes []) × Proceeds C (code_of targets l.ops) (before C tree.nodes) l.pc l.walk

abbrev pub decreases-loop-pc : goal.decreases-loop-pc
decreases-loop-pc l = length l.ops - l.pc
