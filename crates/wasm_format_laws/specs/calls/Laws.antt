-- The facts that the laws are about.
use Rattle.std.specs.Prelude.{◌≡◌, ℕ, List, Ok}
use Rattle.wasm_syntax.specs.declared.module.ModuleParts.{ModuleParts}
use Rattle.wasm_syntax.specs.SameCode.{code_alone}
use Rattle.wasm_format.specs.declared.module.SpelledModule.{SpelledModule}
use Rattle.wasm_format.specs.calls.Grammar.{module_file}
use Rattle.wasm_format.specs.calls.Breaking.{module_stops}
use Rattle.wasm_decode.specs.Decode.{module_from}

-- The bytes spell some module.
abbrev pub Reads : List ℕ → Type 0
Reads bytes = (s : SpelledModule) × module_file s 0 bytes

-- The bytes are broken at some offset.
abbrev pub Breaks : List ℕ → Type 0
Breaks bytes = (at : ℕ) × module_stops 0 bytes at

-- The bytes are decoded as a module with the same code: it differs in places, in lengths and in custom sections alone.
pub record DecodesSame (m : ModuleParts) (bytes : List ℕ) : Type 0 where
  pub decoded : ModuleParts
  pub is : module_from bytes ≡ Ok decoded
  pub code : code_alone decoded ≡ code_alone m
