use Rattle.std.proofs.Common.{◌≤◌, ◌-◌, ◌/◌, ℕ, List, length, drop, map}
use Rattle.wasm_syntax.specs.Tree.{Tree, Writes, code_of}
use Rattle.wasm_syntax.specs.Module.{type_at}
use Rattle.rewrite_bodies.specs.calls.Derived.{count_of, derived_in}
use Rattle.rewrite_code.specs.calls.KeptDerivations.{derivation}
use Rattle.operand_spill.specs.inner.Deriving.{seen, known}
use Rattle.operand_spill.proofs.Derivings.{Left}
use Rattle.operand_spill.proofs.derived.derivations.Given as goal

abbrev pub invariant-loop-pc : goal.invariant-loop-pc
invariant-loop-pc l = record {
  few : length l.kept ≤ length l.locals / 3;
  left : (targets : List ℕ) (tree : Tree) → Writes targets l.ops tree →
      Left (length l.locals / 3) (seen l.candidates) l.exposed (map derivation l.kept) (known l.recent) (drop l.pc (code_of targets l.ops))
      (derived_in (count_of (type_at l.fn.source l.fn.func)) l.locals l.exposed tree.nodes);
}

abbrev pub decreases-loop-pc : goal.decreases-loop-pc
decreases-loop-pc l = length l.ops - l.pc
