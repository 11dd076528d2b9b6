-- The operand types before the instructions of a module's functions, and where they are found.
use Rattle.std.specs.Prelude.{◌≡◌, ℕ, ◌<◌, ◌≤◌, ◌^◌, List, length, slice_get, Option, Some, None}
use Rattle.wasm_syntax.specs.declared.instruction.Op.{Op}
use Rattle.wasm_syntax.specs.declared.value.ValType.{ValType}
use Rattle.wasm_syntax.specs.declared.module.ModuleParts.{ModuleParts as Module}
use Rattle.wasm_syntax.specs.declared.parts.FuncType.{FuncType}
use Rattle.wasm_syntax.specs.declared.parts.Body.{Body}
use Rattle.wasm_syntax.specs.Module.{type_at}
use Rattle.wasm_syntax.specs.Static.{Static}
use Rattle.validate_body.specs.declared.marks.Mark.{Mark}
use Rattle.wasm_syntax.specs.Valid.{body_of}
use Rattle.wasm_validate.specs.Heights.{TypesAt}

-- more than n operands stand before an instruction
abbrev pub HasOperand : Module → ℕ → ℕ → ℕ → Type 0
HasOperand m f op n = (types : List ValType) × TypesAt m f op types × (n < length types)

-- the n-th operand before an instruction, from the bottom, has this type
abbrev pub OperandIs : ValType → Module → ℕ → ℕ → ℕ → Type 0
OperandIs t m f op n = (types : List ValType) → TypesAt m f op types → slice_get types n ≡ Some t

-- the static operand types before an instruction, bottom first; `else` and `end` have none
abbrev pub StaticAt : Module → ℕ → ℕ → List ValType → Type 0
StaticAt m f op types =
    (type : FuncType) × (body : Body) × (o : Op) × (type_at m f ≡ Some type) × (body_of m f ≡ Some body) × (slice_get body.ops op ≡ Some o) × Static m type body o.at types

-- ---- the instructions by their heights

-- up to this instruction, the last one with a height, and its mark
pub record LastOf (marks : List (Option Mark)) (op height : ℕ) (last : ℕ) (mark : Mark) : Type 0 where
  pub there : slice_get marks last ≡ Some (Some mark)
  pub has : mark.height ≡ height
  pub up_to : last ≤ op
  pub later : (i : ℕ) (k : Mark) → last < i → i ≤ op → slice_get marks i ≡ Some (Some k) → k.height ≡ height → ⊥

-- the instructions of a row ascend
abbrev pub Ascends : List ℕ → Type 0
Ascends row = (a b i j : ℕ) → a < b → slice_get row a ≡ Some i → slice_get row b ≡ Some j → i < j

-- no instruction of a row is at most op, or this is the last one
abbrev pub UpTo : Option ℕ → List ℕ → ℕ → Type 0
UpTo None row op = (a i : ℕ) → slice_get row a ≡ Some i → op < i
UpTo (Some last) row op = ((a : ℕ) × (slice_get row a ≡ Some last)) × (last ≤ op) × ((a i : ℕ) → slice_get row a ≡ Some i → i ≤ op → i ≤ last)

-- those of the first n instructions that have a height, ascending
pub record IsRow (row : List ℕ) (marks : List (Option Mark)) (n height : ℕ) : Type 0 where
  pub ascends : Ascends row
  pub each : (a i : ℕ) → slice_get row a ≡ Some i → (i < n) × (k : Mark) × (slice_get marks i ≡ Some (Some k)) × (k.height ≡ height)
  pub all : (i : ℕ) (k : Mark) → i < n → slice_get marks i ≡ Some (Some k) → k.height ≡ height → (a : ℕ) × (slice_get row a ≡ Some i)

-- a row for each height of the first n instructions
pub record AreRows (rows : List (List ℕ)) (marks : List (Option Mark)) (n : ℕ) : Type 0 where
  pub row : (height : ℕ) (row : List ℕ) → slice_get rows height ≡ Some row → IsRow row marks n height
  pub enough : (i : ℕ) (k : Mark) → i < n → slice_get marks i ≡ Some (Some k) → k.height < length rows

-- the rows of the first n functions
pub record RowsUpTo (all : List (List (List ℕ))) (marks : List (List (Option Mark))) (n : ℕ) : Type 0 where
  pub as_many : length all ≡ n
  pub each : (i : ℕ) (rows : List (List ℕ)) (ms : List (Option Mark)) → slice_get all i ≡ Some rows → slice_get marks i ≡ Some ms → AreRows rows ms (length ms)

-- each function has fewer marks than this
abbrev pub FewMarks : List (List (Option Mark)) → Type 0
FewMarks all = (i : ℕ) (marks : List (Option Mark)) → slice_get all i ≡ Some marks → length marks < 2 ^ 32
