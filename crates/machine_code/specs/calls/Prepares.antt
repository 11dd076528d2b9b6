-- What a module is prepared to.
use Rattle.std.specs.Prelude.{◌≡◌, ◌==◌, ℕ, List, length, Some, slice_get}
use Rattle.wasm_syntax.specs.declared.module.ModuleParts.{ModuleParts as Module}
use Rattle.wasm_syntax.specs.declared.parts.FuncType.{FuncType}
use Rattle.wasm_syntax.specs.Module.{Program, type_at, same_functype}
use Rattle.machine_code.specs.calls.Code.{Prepares}
use Rattle.machine_code.specs.declared.prepared.Prepared.{Prepared}

-- the number of a function, by which it is told whether it has a type
pub record HasNumber (functions : List ℕ) (type : FuncType) (k : ℕ) (g : ℕ) (u : FuncType) : Type 0 where
  pub number : ℕ
  pub is : slice_get functions g ≡ Some number
  pub same : same_functype u type ≡ (number == k)

-- Types that are the same by structure have one number, and a function has that of its type.
pub record TypeNumber (m : Module) (types functions : List ℕ) (t : ℕ) (type : FuncType) : Type 0 where
  pub number : ℕ
  pub is : slice_get types t ≡ Some number
  pub of_functions : (g : ℕ) (u : FuncType) → type_at m g ≡ Some u → HasNumber functions type number g u

abbrev pub Numbered : Module → List ℕ → List ℕ → Type 0
Numbered m types functions = (t : ℕ) (type : FuncType) → slice_get m.types t ≡ Some type → TypeNumber m types functions t type

pub record IsPrepared (p : Program) (q : Prepared) : Type 0 where
  pub codes : Prepares p q.codes.items
  pub imports : q.imports ≡ length p.module_.imports
  pub numbers : Numbered p.module_ q.type_numbers q.function_numbers
