-- A tree of words, each of whose nodes is the end of one word.
use Rattle.std.specs.Prelude.{◌≡◌, ℕ, zero, suc, ◌<◌, List, [], ◌∷◌, ◌++◌, map, reverse, length, Option, Some, None}
use Rattle.wasm_syntax.specs.declared.value.ValType.{ValType}
use Rattle.wasm_syntax.specs.declared.value.ValType.TheVariants as types
use Rattle.wasm_syntax.specs.declared.parts.FuncType.{FuncType}
use Rattle.wasm_syntax.specs.Module.{option_then}
use Rattle.machine_code.specs.declared.tree.Letter.{Letter}
use Rattle.machine_code.specs.declared.tree.Letter.TheVariants.{I32, I64, Arrow}
use Rattle.machine_code.specs.declared.tree.Node.{Node}

abbrev pub empty : Node
empty = record { on_i32 = None; on_i64 = None; on_arrow = None }

abbrev pub edge : Node → Letter → Option ℕ
edge n I32 = n.on_i32
edge n I64 = n.on_i64
edge n Arrow = n.on_arrow

abbrev pub with_edge : Node → Letter → ℕ → Node
with_edge n I32 k = record { on_i32 = Some k; on_i64 = n.on_i64; on_arrow = n.on_arrow }
with_edge n I64 k = record { on_i32 = n.on_i32; on_i64 = Some k; on_arrow = n.on_arrow }
with_edge n Arrow k = record { on_i32 = n.on_i32; on_i64 = n.on_i64; on_arrow = Some k }

-- the node one letter on
abbrev pub next : List Node → ℕ → Letter → Option ℕ
next [] at a = None
next (n ∷ ns) zero a = edge n a
next (n ∷ ns) (suc at) a = next ns at a

-- the node of a word, its last letter first
abbrev pub reaches : List Node → List Letter → Option ℕ
reaches ns [] = Some 0
reaches ns (a ∷ w) = option_then (reaches ns w) (λ at. next ns at a)

-- edges go to later nodes, and no two of them to one
pub record IsTree (ns : List Node) : Type 0 where
  pub root : 0 < length ns
  pub later : (i : ℕ) (a : Letter) (k : ℕ) → next ns i a ≡ Some k → (i < k) × (k < length ns)
  pub one : (i j : ℕ) (a b : Letter) (k : ℕ) → next ns i a ≡ Some k → next ns j b ≡ Some k → (i ≡ j) × (a ≡ b)

-- each edge is kept
abbrev pub Extends : List Node → List Node → Type 0
Extends old new = (i : ℕ) (a : Letter) (k : ℕ) → next old i a ≡ Some k → next new i a ≡ Some k

abbrev pub letter_of : ValType → Letter
letter_of types.I32 = I32
letter_of types.I64 = I64

-- the word of a function type, its last letter first
abbrev pub word : FuncType → List Letter
word t = reverse (map letter_of t.results) ++ (Arrow ∷ (reverse (map letter_of t.params) ++ []))
