-- Numbers of types.
use Rattle.std.specs.Prelude.{◌≡◌, ◌==◌, ℕ, List, length, Some, slice_get}
use Rattle.wasm_syntax.specs.declared.parts.FuncType.{FuncType}
use Rattle.wasm_syntax.specs.Module.{same_functype}

-- there is one for each type, and they are the same exactly for types that are the same by structure
pub record AllNumbered (types : List FuncType) (numbers : List ℕ) : Type 0 where
  pub count : length numbers ≡ length types
  pub same : (i j : ℕ) (a b : FuncType) (k l : ℕ) → slice_get types i ≡ Some a → slice_get types j ≡ Some b → slice_get numbers i ≡ Some k → slice_get numbers j ≡ Some l → same_functype a b ≡ (k == l)
