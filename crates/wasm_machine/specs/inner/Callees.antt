-- Entries and their arguments, as the code looks at them.
use Rattle.std.specs.Prelude.{ℕ, Bool, false, ◌&&◌, bytes_eq, List, Option, Some, None}
use Rattle.wasm_syntax.specs.declared.value.Value.{Value}
use Rattle.wasm_syntax.specs.declared.parts.Export.{Export}
use Rattle.wasm_syntax.specs.declared.parts.FuncType.{FuncType}
use Rattle.wasm_syntax.specs.declared.module.ModuleParts.{ModuleParts as Module}
use Rattle.wasm_syntax.specs.Numbers.{types}
use Rattle.wasm_syntax.specs.Module.{is_function, same_types, type_at}

-- a function is exported under this name
abbrev pub is_entry : Export → List ℕ → Bool
is_entry e name = is_function e.kind && bytes_eq e.name name

abbrev pub takes_these : List Value → Option FuncType → Bool
takes_these args None = false
takes_these args (Some type) = same_types type.params (types args)

-- the arguments are as many as a function's parameters, and of their types
abbrev pub takes_arguments : Module → ℕ → List Value → Bool
takes_arguments m f args = takes_these args (type_at m f)
