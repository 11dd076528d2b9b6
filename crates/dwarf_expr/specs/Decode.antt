-- An expression as a list of operators (DWARF 4 section 2.5: "a stream of opcodes, each followed by zero or more operands").
use Rattle.std.specs.Prelude.{◌≡◌, ℕ, zero, suc, ◌+◌, List, [], ◌∷◌, ◌++◌, length, Option, Some, None, Ok, Err}
use Rattle.wasm_bytes.specs.Place.{Place, Read}
use Rattle.wasm_bytes.specs.Reading.{byte_item}
use Rattle.dwarf_bytes.specs.Format.{Format, read, spelled}
use Rattle.dwarf_expr.specs.declared.operators.Operator.{Operator}
use Rattle.dwarf_expr.specs.declared.operators.Begun.{Begun}
use Rattle.dwarf_expr.specs.declared.operators.Begun.TheVariants.{Known, Cut, Foreign}
use Rattle.dwarf_expr.specs.declared.operators.PlacedOperator.{PlacedOperator}
use Rattle.dwarf_expr.specs.Operators.{behind}

-- ---- what an expression is

-- Bytes from an offset on are these operators. Behind one without a reading, or one that is not known, nothing is told.
abbrev pub IsBegun : ℕ → List ℕ → ℕ → Begun → (ℕ → List ℕ → Type 0) → Type 0 → Type 0
IsBegun at bytes opcode (Known op) others last = (f : Format Operator) × (behind opcode ≡ Some f) × (front : List ℕ) × (rest : List ℕ) × spelled f op at front × (bytes ≡ front ++ rest) × others (at + length front) rest
IsBegun at bytes opcode Cut others last = (f : Format Operator) × (behind opcode ≡ Some f) × ((op : Operator) (front rest : List ℕ) → spelled f op at front → bytes ≡ front ++ rest → ⊥) × last
IsBegun at bytes opcode Foreign others last = (behind opcode ≡ None) × last

abbrev pub AreOperators : List PlacedOperator → ℕ → List ℕ → Type 0
AreOperators [] at bytes = bytes ≡ []
AreOperators (x ∷ xs) at bytes = (rest : List ℕ) × (bytes ≡ x.opcode ∷ rest) × (x.at ≡ at) × IsBegun (at + 1) rest x.opcode x.begun (AreOperators xs) (xs ≡ [])

-- ---- the same, computed

abbrev pub placed : ℕ → ℕ → Begun → PlacedOperator
placed at opcode begun = record { at = at; opcode = opcode; begun = begun }

-- what is behind an operator, where something is told of it
abbrev pub others_behind : Begun → List PlacedOperator → List PlacedOperator
others_behind (Known op) xs = xs
others_behind _ xs = []

-- what an opcode begins, and the place behind it
abbrev pub begun_by : Place → Read Operator → Begun × Place
begun_by p (Ok x) = (Known x.0, x.1)
begun_by p (Err e) = (Cut, p)

abbrev pub begun_at : Place → Option (Format Operator) → Begun × Place
begun_at p (Some f) = begun_by p (read f p)
begun_at p None = (Foreign, p)

abbrev pub with_others : ℕ → ℕ → Begun × Place → (Place → List PlacedOperator) → List PlacedOperator
with_others at opcode b more = placed at opcode b.0 ∷ others_behind b.0 (more b.1)

abbrev pub from_opcode : ℕ → Read ℕ → (Place → List PlacedOperator) → List PlacedOperator
from_opcode at (Ok b) more = with_others at b.0 (begun_at b.1 (behind b.0)) more
from_opcode at (Err e) more = []

-- at most so many
unfoldable pub operators_from : ℕ → Place → List PlacedOperator
operators_from zero p = []
operators_from (suc n) p = from_opcode p.at (byte_item p) (λ q. operators_from n q)

unfoldable pub operators : List ℕ → List PlacedOperator
operators bytes = operators_from (length bytes) (record { block = bytes; at = 0 })
