-- The bytes of a module with the same code.
use Rattle.std.specs.Prelude.{◌≡◌, ℕ, List, map, None}
use Rattle.wasm_syntax.specs.declared.module.ModuleParts.{ModuleParts}
use Rattle.wasm_syntax.specs.SameCode.{code_alone}
use Rattle.wasm_format.specs.declared.module.Imported.TheVariants.{Function}
use Rattle.wasm_format.specs.declared.module.SpelledModule.{SpelledModule}
use Rattle.wasm_format.specs.calls.Grammar.{module_file}

-- The bytes spell a module (Core 5) that has no floats, imports these functions and nothing else, and has the same code: it
-- differs in places, in lengths and in custom sections alone.
pub record SpellsSame (m : ModuleParts) (bytes : List ℕ) : Type 0 where
  pub read : SpelledModule
  pub spelled : module_file read 0 bytes
  pub no_float : read.float ≡ None
  pub imports : read.imports ≡ map Function m.imports
  pub code : code_alone (record read.parts { imports = m.imports }) ≡ code_alone m
