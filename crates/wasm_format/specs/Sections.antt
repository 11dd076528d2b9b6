-- Reading a module as a list of sections (Core 5.5.2 to 5.5.15).
use Rattle.std.specs.Prelude.{ℕ, ◌+◌, ◌-◌, List, [], ◌∷◌, ◌++◌, length, Option, Some, None, Bool, ◌&&◌, ◌==◌, nat_lt, nat_le, if◌then◌else◌}
use Rattle.wasm_syntax.specs.declared.value.ValType.{ValType}
use Rattle.wasm_syntax.specs.declared.parts.FuncType.{FuncType}
use Rattle.wasm_syntax.specs.declared.parts.Limits.{Limits}
use Rattle.wasm_syntax.specs.declared.parts.Body.{Body}
use Rattle.wasm_syntax.specs.declared.parts.Global.{Global}
use Rattle.wasm_syntax.specs.declared.parts.Export.{Export}
use Rattle.wasm_syntax.specs.declared.parts.ElementSeg.{ElementSeg}
use Rattle.wasm_syntax.specs.declared.parts.DataSeg.{DataSeg}
use Rattle.wasm_syntax.specs.declared.parts.Custom.{Custom}
use Rattle.wasm_syntax.specs.declared.module.ModuleParts.{ModuleParts}
use Rattle.wasm_bytes.specs.Place.{Place, Read}
use Rattle.wasm_bytes.specs.Reading.{◌⊗◌, ◌▷◌, mapped, checked, choose, complete, bytes_item, u32_item, name_item, sized_run_item, here_item, rest_item, vector_item, items_from, within, steps_to_end}
use Rattle.wasm_bytes.specs.declared.noted.Noted.{Noted}
use Rattle.wasm_format.specs.declared.module.Imported.{Imported}
use Rattle.wasm_format.specs.declared.module.SpelledModule.{SpelledModule}
use Rattle.wasm_bytes.specs.Notes.{noted_as, noted_both, together, noted_vector_item}
use Rattle.wasm_format.specs.Form.{functype_item, limits_item, table_item, globaltype_item, import_item, export_item}
use Rattle.wasm_format.specs.Expressions.{expression_item, code_item}
use Rattle.std.specs.Option.{option_or}
use Rattle.wasm_bytes.specs.Tables.{header}

-- ---- globals and segments

abbrev pub global : Bool → ValType → Body → Global
global mutable vtype init = record { vtype = vtype; mutable = mutable; init = init }

abbrev pub global_of : (Noted ValType × Bool) × Noted Body → Noted Global
global_of x = noted_both (global x.0.1) x.0.0 x.1

-- a global (Core 5.5.9)
unfoldable pub global_item : Place → Read (Noted Global)
global_item = mapped global_of (globaltype_item ⊗ expression_item)

abbrev pub element : ℕ → List ℕ → Body → ElementSeg
element table functions offset = record { table = table; offset = offset; functions = functions }

abbrev pub element_of : ℕ × (Noted Body × List ℕ) → Noted ElementSeg
element_of x = noted_as (element x.0 x.1.1) x.1.0

-- an element segment (Core 5.5.12)
unfoldable pub element_item : Place → Read (Noted ElementSeg)
element_item = mapped element_of (u32_item ⊗ expression_item ⊗ vector_item u32_item)

abbrev pub segment : ℕ → List ℕ → Body → DataSeg
segment memory bytes offset = record { memory = memory; offset = offset; bytes = bytes }

abbrev pub segment_of : ℕ × (Noted Body × List ℕ) → Noted DataSeg
segment_of x = noted_as (segment x.0 x.1.1) x.1.0

-- a data segment (Core 5.5.14)
unfoldable pub segment_item : Place → Read (Noted DataSeg)
segment_item = mapped segment_of (u32_item ⊗ expression_item ⊗ sized_run_item)

-- ---- code

-- as many elements as are due
abbrev pub due_vector_item : {A : Type 0} → ℕ → (Place → Read (Noted A)) → Place → Read (Noted (List A))
due_vector_item due f = checked (λ n. n == due) u32_item ▷ λ n. mapped together (items_from f n)

-- the bodies of so many functions
unfoldable pub bodies_item : ℕ → Place → Read (Noted (List Body))
bodies_item due = here_item ▷ λ origin. due_vector_item due (code_item origin)

-- ---- what a section adds to what the sections before it say

-- parts that hold no types of values and no instructions
abbrev pub with_plain : SpelledModule → ℕ → ModuleParts → SpelledModule
with_plain s id parts = record { last = id; float = s.float; imports = s.imports; parts = parts }

-- parts that may hold floats
abbrev pub with_parts : SpelledModule → ℕ → Option ℕ → ModuleParts → SpelledModule
with_parts s id float parts = record { last = id; float = option_or s.float float; imports = s.imports; parts = parts }

abbrev pub with_types : SpelledModule → Noted (List FuncType) → SpelledModule
with_types s x = with_parts s 1 x.float (record s.parts { types = x.value })

abbrev pub with_imports : SpelledModule → Noted (List Imported) → SpelledModule
with_imports s x = record { last = 2; float = option_or s.float x.float; imports = x.value; parts = s.parts }

abbrev pub with_functions : SpelledModule → List ℕ → SpelledModule
with_functions s x = with_plain s 3 (record s.parts { functions = x })

abbrev pub with_tables : SpelledModule → List Limits → SpelledModule
with_tables s x = with_plain s 4 (record s.parts { tables = x })

abbrev pub with_memories : SpelledModule → List Limits → SpelledModule
with_memories s x = with_plain s 5 (record s.parts { memories = x })

abbrev pub with_globals : SpelledModule → Noted (List Global) → SpelledModule
with_globals s x = with_parts s 6 x.float (record s.parts { globals = x.value })

abbrev pub with_exports : SpelledModule → List Export → SpelledModule
with_exports s x = with_plain s 7 (record s.parts { exports = x })

abbrev pub with_start : SpelledModule → ℕ → SpelledModule
with_start s x = with_plain s 8 (record s.parts { start = Some x })

abbrev pub with_elements : SpelledModule → Noted (List ElementSeg) → SpelledModule
with_elements s x = with_parts s 9 x.float (record s.parts { elements = x.value })

abbrev pub with_bodies : SpelledModule → Noted (List Body) → SpelledModule
with_bodies s x = with_parts s 10 x.float (record s.parts { bodies = x.value })

abbrev pub with_segments : SpelledModule → Noted (List DataSeg) → SpelledModule
with_segments s x = with_parts s 11 x.float (record s.parts { segments = x.value })

-- the contents of a section of that id
unfoldable pub contents_item : SpelledModule → ℕ → Place → Read SpelledModule
contents_item s id =
    if id == 1 then mapped (with_types s) (noted_vector_item functype_item)
    else (if id == 2 then mapped (with_imports s) (noted_vector_item import_item)
    else (if id == 3 then mapped (with_functions s) (vector_item u32_item)
    else (if id == 4 then mapped (with_tables s) (vector_item table_item)
    else (if id == 5 then mapped (with_memories s) (vector_item limits_item)
    else (if id == 6 then mapped (with_globals s) (noted_vector_item global_item)
    else (if id == 7 then mapped (with_exports s) (vector_item export_item)
    else (if id == 8 then mapped (with_start s) u32_item
    else (if id == 9 then mapped (with_elements s) (noted_vector_item element_item)
    else (if id == 10 then mapped (with_bodies s) (bodies_item (length s.parts.functions))
    else mapped (with_segments s) (noted_vector_item segment_item))))))))))

-- a custom section (Core 5.5.3): its name, and the bytes behind that
abbrev pub with_custom : SpelledModule → List ℕ × (ℕ × List ℕ) → SpelledModule
with_custom s x =
    let custom : Custom = record { name = x.0; at = x.1.0; len = length x.1.1 } in
    record s { parts = record s.parts { customs = s.parts.customs ++ custom ∷ [] } }

unfoldable pub custom_item : SpelledModule → Place → Read SpelledModule
custom_item s = mapped (with_custom s) (name_item ⊗ here_item ⊗ rest_item)

-- ---- sections

-- Ids other than 0 rise strictly, up to 11.
abbrev pub may_follow : ℕ → ℕ → Bool
may_follow last id = nat_lt last id && nat_le id 11

-- A section that is no custom section counts from one offset up to another.
abbrev pub measured : ℕ → SpelledModule × ℕ → SpelledModule
measured from x = record x.0 { parts = record x.0.parts { plain_bytes = x.0.parts.plain_bytes + (x.1 - from) } }

-- what stands behind the id of a section, where the id is at that offset
abbrev pub section_behind : SpelledModule → ℕ → ℕ → Option (Place → Read SpelledModule)
section_behind s from id =
    if id == 0 then Some (within (custom_item s))
    else (if may_follow s.last id then Some (mapped (measured from) (within (contents_item s id) ⊗ here_item))
    else None)

-- a section, and what it adds
unfoldable pub section_step : SpelledModule → Place → Read SpelledModule
section_step s = here_item ▷ λ from. choose (section_behind s from)

-- no section, whose module is the header alone
unfoldable pub no_parts : ModuleParts
no_parts = record {
  types = [];
  imports = [];
  functions = [];
  tables = [];
  memories = [];
  globals = [];
  exports = [];
  start = None;
  elements = [];
  segments = [];
  bodies = [];
  customs = [];
  plain_bytes = 8;
}

unfoldable pub no_sections : SpelledModule
no_sections = record { last = 0; float = None; imports = []; parts = no_parts }

unfoldable pub sections_item : Place → Read SpelledModule
sections_item = mapped (λ x. x.1) (bytes_item header ⊗ steps_to_end section_step no_sections)

-- Each function that the module defines has a body.
abbrev pub has_bodies : SpelledModule → Bool
has_bodies s = length s.parts.bodies == length s.parts.functions

unfoldable pub module_item : Place → Read SpelledModule
module_item = complete has_bodies sections_item
