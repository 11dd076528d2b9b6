-- The greatest height among the first instructions of a function.
use Rattle.std.specs.Prelude.{◌≡◌, ◌⊎◌, ℕ, ◌<◌, ◌≤◌, List, length, Option, Some, None}
use Rattle.wasm_syntax.specs.declared.value.ValType.{ValType}
use Rattle.wasm_syntax.specs.declared.module.ModuleParts.{ModuleParts as Module}
use Rattle.wasm_validate.specs.Heights.{StandsIn, TypesAt}

abbrev pub height_or_zero : Option ℕ → ℕ
height_or_zero None = 0
height_or_zero (Some h) = h

-- no live one of the first n has more operands, and one has as many, or there are none
pub record IsGreatestUpTo (m : Module) (f n : ℕ) (most : ℕ) : Type 0 where
  pub bound : (op : ℕ) (types : List ValType) → op < n → TypesAt m f op types → length types ≤ most
  pub there : (most ≡ 0) ⊎ StandsIn m f most
