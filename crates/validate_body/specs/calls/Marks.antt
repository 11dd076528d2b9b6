-- What is known before each instruction of a body: whether its code is live, how many operands there are, and the topmost one's type.
use Rattle.std.specs.Prelude.{◌≡◌, ℕ, Bool, false, List, [], ◌∷◌, map, length, slice_get, if◌then◌else◌, Option, Some, None}
use Rattle.wasm_syntax.specs.declared.value.ValType.{ValType}
use Rattle.wasm_syntax.specs.declared.parts.FuncType.{FuncType}
use Rattle.wasm_syntax.specs.declared.parts.Body.{Body}
use Rattle.wasm_syntax.specs.declared.module.ModuleParts.{ModuleParts as Module}
use Rattle.wasm_syntax.specs.FlatTyping.{TypesBefore}
use Rattle.validate_body.specs.calls.Frames.{Known, Frame, operands, any_free, topmost}
use Rattle.validate_body.specs.declared.marks.Mark.{Mark}

abbrev pub flags : List Frame → List Bool
flags fs = map (λ f. f.free) fs

-- in frames where nothing is forgotten every type is known
abbrev pub AllSome : Known → Type 0
AllSome [] = Unit {0}
AllSome (None ∷ ks) = ⊥
AllSome (Some t ∷ ks) = AllSome ks

abbrev pub Sure : List Frame → Type 0
Sure [] = Unit {0}
Sure (f ∷ fs) = (f.free ≡ false → AllSome f.known) × Sure fs

-- what is known in these frames, where none is dead
abbrev pub mark_of : List Frame → Option Mark
mark_of fs = if any_free fs then None else Some (record { height = length (operands fs); top = topmost (operands fs) })

-- the last type of a list, where there is one
abbrev pub last_type : List ValType → Option ValType
last_type [] = None
last_type (t ∷ []) = Some t
last_type (t ∷ u ∷ ts) = last_type (u ∷ ts)

-- the mark says this of these operand types, bottom first
abbrev pub Shows : Mark → List ValType → Type 0
Shows k types = (k.height ≡ length types) × (k.top ≡ last_type types)

-- before the i-th instruction: no operand types, since the code is dead, or those that the mark shows
abbrev pub MarkIs : Option Mark → Module → FuncType → Body → ℕ → Type 0
MarkIs None m type body i = (types : List ValType) → TypesBefore m type body i types → ⊥
MarkIs (Some k) m type body i =
    ((types : List ValType) × TypesBefore m type body i types × Shows k types)
    × ((types : List ValType) → TypesBefore m type body i types → Shows k types)

-- a mark for each instruction
pub record Marked (marks : List (Option Mark)) (m : Module) (type : FuncType) (body : Body) : Type 0 where
  pub as_many : length marks ≡ length body.ops
  pub each : (i : ℕ) (k : Option Mark) → slice_get marks i ≡ Some k → MarkIs k m type body i
