-- A function's code, and what it is prepared from.
use Rattle.std.specs.Prelude.{◌≡◌, ℕ, Bool, true, false, List, length, Option, Some, None, slice_get}
use Rattle.wasm_syntax.specs.declared.value.ValType.{ValType}
use Rattle.wasm_syntax.specs.declared.parts.FuncType.{FuncType}
use Rattle.wasm_syntax.specs.declared.parts.Body.{Body}
use Rattle.wasm_syntax.specs.Module.{Program, defined, defined_at}
use Rattle.wasm_syntax.specs.Tree.{Tree, Placed, code_of}
use Rattle.wasm_syntax.specs.Machine.{result_of}
use Rattle.machine_code.specs.declared.code.Code.{Code}
use Rattle.machine_code.specs.calls.Flat.{Stands}

abbrev pub gives_one : Option ValType → Bool
gives_one None = false
gives_one (Some t) = true

-- the instructions of its body
abbrev pub items : Code → List Placed
items code = code_of code.body.now.targets code.body.now.ops

-- the code is that of a function whose body writes out this tree, and with this type
pub record FitsCode (tree : Tree) (type : FuncType) (code : Code) : Type 0 where
  pub stands : Stands (items code) code.sides tree
  pub params : code.params ≡ length type.params
  pub gives : code.gives ≡ gives_one (result_of type)

-- the code of each function that is defined
pub record Prepares (p : Program) (codes : List Code) : Type 0 where
  pub at : (i : ℕ) (body : Body) (tree : Tree) (type : FuncType) → defined_at p i ≡ Some (defined body tree type) →
      ((code : Code) × (slice_get codes i ≡ Some code) × (code.body.now ≡ body) × FitsCode tree type code)
