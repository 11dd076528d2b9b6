-- The beginning and the end of pieces that stand around others.
use Rattle.std.specs.Prelude.{◌≡◌, ◌≤◌, ℕ, List, [], ◌∷◌, ◌++◌, length, slice_get, Option, Some, None}
use Rattle.wasm_syntax.specs.declared.value.ValType.{ValType}
use Rattle.wasm_syntax.specs.Tree.{Nodes, stop, block}
use Rattle.rewrite_bodies.specs.calls.Slots.{Landing, Ctx, measured}
use Rattle.rewrite_bodies.specs.calls.Guards.{measure}
use Rattle.rewrite_bodies.specs.calls.Rewrite.{nested, landing_code, exit_code}
use Rattle.rewrite_code.specs.calls.Writing.{Written, Behind, ends, alternates, goes}

-- the beginning of two blocks, the second one, which gives this, in front of all nodes of the first
pub record OpensTwo (t : Option ValType) (old new : Written) : Type 0 where
  pub opened : (inner k l : Nodes) (behind : List Behind) → goes old (block 0 None (block 0 t inner 0 k) 0 l) behind ≡ goes new inner (ends k ∷ ends l ∷ behind)

-- the beginning of a piece of two arms
pub record OpensBoth (piece : Nodes → Nodes → Nodes → Nodes) (old new : Written) : Type 0 where
  pub opened : (arm other k : Nodes) (behind : List Behind) → goes old (piece arm other k) behind ≡ goes new arm (alternates other k ∷ behind)

-- the end of a block, and the piece behind it
pub record ClosesBefore (piece : Nodes → Nodes) (old new : Written) : Type 0 where
  pub closed : (k : Nodes) (behind : List Behind) → goes old stop (ends (piece k) ∷ behind) ≡ goes new k behind

-- the end of a block, and all nodes behind it
pub record ClosesWith (nodes : Nodes) (old new : Written) : Type 0 where
  pub closed : (behind : List Behind) → goes old stop (ends nodes ∷ behind) ≡ goes new stop behind

-- what is due behind the blocks of these landings, the innermost first
abbrev pub behind_landings : Ctx → List Landing → List Behind → List Behind
behind_landings C [] behind = behind
behind_landings C (x ∷ xs) behind = ends (landing_code C (length xs) x) ∷ behind_landings C xs behind

-- the beginning of the blocks of landings
abbrev pub OpensNested : Ctx → List Landing → Written → Written → Type 0
OpensNested C xs old new = (inner : Nodes) (behind : List Behind) → goes old (nested C xs inner) behind ≡ goes new inner (behind_landings C xs behind)

-- and their ends
abbrev pub ClosesNested : Ctx → List Landing → Written → Written → Type 0
ClosesNested C xs old new = (behind : List Behind) → goes old stop (behind_landings C xs behind) ≡ goes new stop behind

-- the operands of landings have slots
abbrev pub LowLandings : Ctx → Type 0
LowLandings C = (n : ℕ) (x : Landing) → slice_get C.landings n ≡ Some x → length x.places ≤ C.slots

-- the beginning of a body
abbrev pub OpensBody : Ctx → Written → Written → Type 0
OpensBody C old new =
    (nodes k : Nodes) (behind : List Behind)
    → goes old (measure (measured C) C (block 0 None (nested C C.landings (block 0 C.result nodes 0 k)) 0 (exit_code C))) behind ≡ goes new nodes (ends k ∷ behind_landings C C.landings (ends (exit_code C) ∷ behind))
