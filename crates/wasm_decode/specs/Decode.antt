-- A whole module from its bytes.
use Rattle.std.specs.Prelude.{◌≡◌, ℕ, suc, List, [], ◌∷◌, length, map, slice_get, Option, Some, None, Result, Ok, Err, nat_lt, if◌then◌else◌, option_map}
use Rattle.std.specs.List.{flat_map}
use Rattle.wasm_syntax.specs.declared.quantity.Quantity.{Quantity}
use Rattle.wasm_syntax.specs.declared.quantity.Quantity.TheVariants.{ModuleBytes, Locals, Nesting, Table, Memory}
use Rattle.wasm_syntax.specs.declared.parts.Import.{Import}
use Rattle.wasm_syntax.specs.declared.parts.FuncType.{FuncType}
use Rattle.wasm_syntax.specs.declared.parts.Body.{Body}
use Rattle.wasm_syntax.specs.declared.module.ModuleParts.{ModuleParts}
use Rattle.wasm_syntax.specs.Quantity.{greatest}
use Rattle.wasm_syntax.specs.Sizes.{local_count, nesting}
use Rattle.wasm_bytes.specs.Reading.{whole}
use Rattle.wasm_format.specs.declared.module.Imported.{Imported}
use Rattle.wasm_format.specs.declared.module.Imported.TheVariants as imported
use Rattle.wasm_format.specs.declared.module.SpelledModule.{SpelledModule}
use Rattle.wasm_format.specs.Sections.{module_item}
use Rattle.wasm_decode.specs.declared.fault.DecodeFault.{DecodeFault}
use Rattle.wasm_decode.specs.declared.fault.DecodeFault.TheVariants.{NoMemory, Malformed, Float, ImportKind, Limit}
use Rattle.wasm_bytes.specs.Refusals.{◌orelse◌, unless_refused}

-- ---- imports

abbrev pub function_in : Imported → List Import
function_in (imported.Function i) = i ∷ []
function_in _ = []

abbrev pub functions_of : List Imported → List Import
functions_of imports = flat_map function_in imports

-- the index of the first import that is no function, where the first one has this index
abbrev pub other_from : ℕ → List Imported → Option ℕ
other_from index [] = None
other_from index (imported.Function i ∷ imports) = other_from (suc index) imports
other_from index (_ ∷ imports) = Some index

abbrev pub first_other : List Imported → Option ℕ
first_other imports = other_from 0 imports

-- the module that was spelled, where it has neither floats nor other imports
unfoldable pub module_of : SpelledModule → ModuleParts
module_of s = record s.parts { imports = functions_of s.imports }

-- ---- quantities

-- the locals of each function that has a body, with its parameters; a type that is out of range has none
abbrev pub all_locals : List FuncType → List ℕ → List Body → List ℕ
all_locals types (t ∷ ts) (body ∷ bodies) = local_count (slice_get types t) body ∷ all_locals types ts bodies
all_locals types _ _ = []

-- the first number that passes the greatest one of the quantity
abbrev pub first_over : Quantity → List ℕ → Option DecodeFault
first_over what [] = None
first_over what (n ∷ ns) = if nat_lt (greatest what) n then Some (Limit what n) else first_over what ns

-- the first quantity that passes: of locals and of nesting by functions, then of tables, then of memories
unfoldable pub too_much : ModuleParts → Option DecodeFault
too_much m =
    first_over Locals (all_locals m.types m.functions m.bodies) orelse first_over Nesting (map nesting m.bodies)
    orelse first_over Table (map (λ l. l.min) m.tables) orelse first_over Memory (map (λ l. l.min) m.memories)

-- ---- refusals

abbrev pub at_float : Option ℕ → Option DecodeFault
at_float o = option_map Float o

abbrev pub at_import : Option ℕ → Option DecodeFault
at_import o = option_map ImportKind o

-- why what was spelled is refused
unfoldable pub refusal : SpelledModule → Option DecodeFault
refusal s = at_float s.float orelse at_import (first_other s.imports) orelse too_much (module_of s)

abbrev pub judged : SpelledModule → Result ModuleParts DecodeFault
judged s = unless_refused (refusal s) (module_of s)

abbrev pub judged_read : Result SpelledModule ℕ → Result ModuleParts DecodeFault
judged_read (Ok s) = judged s
judged_read (Err at) = Err (Malformed at)

-- the module that the bytes spell, or why they are refused
unfoldable pub module_from : List ℕ → Result ModuleParts DecodeFault
module_from bytes = if nat_lt (greatest ModuleBytes) (length bytes) then Err (Limit ModuleBytes (length bytes)) else judged_read (whole module_item bytes)

-- A function answered that, or memory ran out.
abbrev pub Answers : {A : Type 0} → Result A DecodeFault → Result A DecodeFault → Type 0
Answers (Err NoMemory) answer = Unit {0}
Answers result answer = result ≡ answer
