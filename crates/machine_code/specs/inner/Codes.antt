-- The code of the first functions that a module defines.
use Rattle.std.specs.Prelude.{◌≡◌, ℕ, ◌<◌, List, length, Some, slice_get}
use Rattle.wasm_syntax.specs.declared.parts.FuncType.{FuncType}
use Rattle.wasm_syntax.specs.declared.parts.Body.{Body}
use Rattle.wasm_syntax.specs.Tree.{Tree}
use Rattle.wasm_syntax.specs.Module.{Program, defined, defined_at}
use Rattle.machine_code.specs.declared.code.Code.{Code}
use Rattle.machine_code.specs.calls.Code.{FitsCode}

pub record PreparesUpTo (p : Program) (n : ℕ) (codes : List Code) : Type 0 where
  pub count : length codes ≡ n
  pub at : (i : ℕ) (body : Body) (tree : Tree) (type : FuncType) → i < n → defined_at p i ≡ Some (defined body tree type) →
      ((code : Code) × (slice_get codes i ≡ Some code) × (code.body.now ≡ body) × FitsCode tree type code)
