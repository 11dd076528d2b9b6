-- The operand types and heights before the instructions of a module's functions.
use Rattle.std.specs.Prelude.{◌≡◌, ℕ, ◌<◌, ◌≤◌, List, length, Option, Some, None}
use Rattle.wasm_syntax.specs.declared.value.ValType.{ValType}
use Rattle.wasm_syntax.specs.declared.quantity.Quantity.TheVariants as quantities
use Rattle.wasm_syntax.specs.declared.module.ModuleParts.{ModuleParts as Module}
use Rattle.wasm_syntax.specs.declared.parts.FuncType.{FuncType}
use Rattle.wasm_syntax.specs.declared.parts.Body.{Body}
use Rattle.wasm_syntax.specs.Quantity.{greatest}
use Rattle.wasm_syntax.specs.Module.{type_at}
use Rattle.wasm_syntax.specs.FlatTyping.{TypesBefore}
use Rattle.wasm_syntax.specs.Valid.{body_of}

-- the operand types before an instruction of a function, bottom first, where its code is live; `else` and `end` count
abbrev pub TypesAt : Module → ℕ → ℕ → List ValType → Type 0
TypesAt m f op types =
    (type : FuncType) × (body : Body) × (type_at m f ≡ Some type) × (body_of m f ≡ Some body) × TypesBefore m type body op types

-- a function that the module defines has an instruction of this number
abbrev pub HasOp : Module → ℕ → ℕ → Type 0
HasOp m f op = (body : Body) × (body_of m f ≡ Some body) × (op < length body.ops)

-- there is no height, since the code is dead, or this one
abbrev pub HeightIs : Option ℕ → Module → ℕ → ℕ → Type 0
HeightIs None m f op = (types : List ValType) → TypesAt m f op types → ⊥
HeightIs (Some h) m f op =
    ((types : List ValType) × TypesAt m f op types × (length types ≡ h))
    × ((types : List ValType) → TypesAt m f op types → length types ≡ h)

-- so many operands stand before an instruction of a function
abbrev pub StandsIn : Module → ℕ → ℕ → Type 0
StandsIn m f n = (op : ℕ) × HasOp m f op × (types : List ValType) × TypesAt m f op types × (length types ≡ n)

-- no function has more operands than may be
abbrev pub AllLow : Module → Type 0
AllLow m = (f n : ℕ) → StandsIn m f n → n ≤ greatest quantities.Height

-- the first function with more operands than may be, and the most that it has
pub record FirstHigh (m : Module) (count : ℕ) : Type 0 where
  pub function : ℕ
  pub there : StandsIn m function count
  pub most : (n : ℕ) → StandsIn m function n → n ≤ count
  pub passes : greatest quantities.Height < count
  pub earlier : (f n : ℕ) → f < function → StandsIn m f n → n ≤ greatest quantities.Height
