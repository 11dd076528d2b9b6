-- What each answer says of the bytes.
use Rattle.std.specs.Prelude.{◌≡◌, ℕ, ◌<◌, ◌≤◌, ◌⊎◌, List, length, Some, None, Result}
use Rattle.wasm_syntax.specs.declared.quantity.Quantity.{Quantity}
use Rattle.wasm_syntax.specs.declared.quantity.Quantity.TheVariants.{ModuleBytes}
use Rattle.wasm_syntax.specs.declared.module.ModuleParts.{ModuleParts}
use Rattle.wasm_syntax.specs.Quantity.{greatest}
use Rattle.wasm_format.specs.declared.module.SpelledModule.{SpelledModule}
use Rattle.wasm_format.specs.calls.Grammar.{module_file}
use Rattle.wasm_format.specs.calls.Breaking.{module_stops}
use Rattle.wasm_decode.specs.declared.fault.DecodeFault.{DecodeFault}
use Rattle.wasm_decode.specs.declared.fault.DecodeFault.TheVariants.{Limit}
use Rattle.wasm_decode.specs.Decode.{first_other, module_of, too_much, Answers}

-- The bytes are not too many, and spell this.
abbrev pub IsSpelled : SpelledModule → List ℕ → Type 0
IsSpelled s bytes = (length bytes ≤ greatest ModuleBytes) × module_file s 0 bytes

-- It has no float, and imports functions alone.
abbrev pub IsPlain : SpelledModule → Type 0
IsPlain s = (s.float ≡ None) × (first_other s.imports ≡ None)

-- The bytes spell this module, and no quantity passes its greatest number.
abbrev pub IsModuleOf : List ℕ → ModuleParts → Type 0
IsModuleOf bytes m = (s : SpelledModule) × IsSpelled s bytes × IsPlain s × (too_much (module_of s) ≡ None) × (module_of s ≡ m)

-- The first item without a reading is at this offset.
abbrev pub BreaksAt : List ℕ → ℕ → Type 0
BreaksAt bytes at = (length bytes ≤ greatest ModuleBytes) × module_stops 0 bytes at

-- The first float type or float opcode is at this offset.
abbrev pub HasFloatAt : List ℕ → ℕ → Type 0
HasFloatAt bytes at = (s : SpelledModule) × IsSpelled s bytes × (s.float ≡ Some at)

-- There is no float, and the first import that is no function has this index.
abbrev pub HasOtherImport : List ℕ → ℕ → Type 0
HasOtherImport bytes index = (s : SpelledModule) × IsSpelled s bytes × (s.float ≡ None) × (first_other s.imports ≡ Some index)

-- This quantity is the first one that passes its greatest number.
abbrev pub PassesLimit : List ℕ → Quantity → ℕ → Type 0
PassesLimit bytes what count =
    ((what ≡ ModuleBytes) × (count ≡ length bytes) × (greatest ModuleBytes < length bytes))
    ⊎ ((s : SpelledModule) × IsSpelled s bytes × IsPlain s × (too_much (module_of s) ≡ Some (Limit what count)))

-- The answer comes only where the fact holds. Where it holds, the answer comes, or memory ran out.
pub record Exactly (result answer : Result ModuleParts DecodeFault) (P : Type 0) : Type 0 where
  pub only : result ≡ answer → P
  pub always : P → Answers result answer
