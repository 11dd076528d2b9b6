-- What a rewritten module shows those outside.
use Rattle.std.specs.Prelude.{◌≡◌, ℕ, Some, List, map, length, take}
use Rattle.wasm_syntax.specs.declared.parts.FuncType.{FuncType}
use Rattle.wasm_syntax.specs.declared.module.ModuleParts.{ModuleParts as Module}
use Rattle.wasm_syntax.specs.Module.{type_at, function_export}
use Rattle.wasm_syntax.specs.SameCode.{global_code, code_alone}
use Rattle.rewrite_modules.specs.Interface.{KeepsInterface, KeepsTable}

-- The other module shows those outside what the module shows: its imports and exports, with those that the rewriting adds, its types and
-- memories, its data segments but for the offsets of their code, its globals in front of any others, and its table, or twice as much of it.
pub record KeepsOutside (m other : Module) : Type 0 where
  pub interface : KeepsInterface (code_alone m) (code_alone other)
  pub table : KeepsTable m other
  pub globals : take (length m.globals) (map global_code other.globals) ≡ map global_code m.globals

-- A function of this type is exported under this name.
abbrev pub ExportsFunction : Module → List ℕ → FuncType → Type 0
ExportsFunction m name type = (f : ℕ) × (function_export m name ≡ Some f) × (type_at m f ≡ Some type)

-- Each function that a module exports, the other one exports under its name, with its type.
abbrev pub KeepsFunctions : Module → Module → Type 0
KeepsFunctions m other = (name : List ℕ) (type : FuncType) → ExportsFunction m name type → ExportsFunction other name type
