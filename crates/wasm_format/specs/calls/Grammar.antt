-- The bytes that spell a module (Core 5.3 to 5.5). A module has many spellings, because a number has.
use Rattle.std.specs.Prelude.{◌≡◌, ℕ, Bool, List, length, ◌==◌}
use Rattle.wasm_syntax.specs.declared.value.ValType.{ValType}
use Rattle.wasm_syntax.specs.declared.parts.FuncType.{FuncType}
use Rattle.wasm_syntax.specs.declared.parts.Limits.{Limits}
use Rattle.wasm_syntax.specs.declared.parts.Body.{Body}
use Rattle.wasm_syntax.specs.declared.parts.Global.{Global}
use Rattle.wasm_syntax.specs.declared.parts.Export.{Export}
use Rattle.wasm_syntax.specs.declared.parts.ExportKind.{ExportKind}
use Rattle.wasm_syntax.specs.declared.parts.ElementSeg.{ElementSeg}
use Rattle.wasm_syntax.specs.declared.parts.DataSeg.{DataSeg}
use Rattle.wasm_bytes.specs.calls.Spelling.{Spellings, ◌&◌, pair, leads, always, image, passing, here, byte, one_of, text, u32, sized_run, name, sized, vector, tagged, steps, some_steps, steps_to_done}
use Rattle.wasm_format.specs.calls.InstructionGrammar.{instruction}
use Rattle.wasm_bytes.specs.declared.noted.Noted.{Noted}
use Rattle.wasm_format.specs.declared.expression.Expression.{Expression}
use Rattle.wasm_format.specs.declared.expression.Locals.{Locals}
use Rattle.wasm_format.specs.declared.module.Imported.{Imported}
use Rattle.wasm_format.specs.declared.module.SpelledModule.{SpelledModule}
use Rattle.wasm_format.specs.calls.Choices.{on_test, no_spelling, first_and}
use Rattle.wasm_bytes.specs.Notes.{together}
use Rattle.wasm_format.specs.Form.{is_valtype, valtype_of, functype_of, least, bounded, is_mutability, is_variable, function_import, table_import, memory_import, global_import, is_export_kind, export_kind_of, export_of, no_locals, is_room, with_group}
use Rattle.wasm_format.specs.Expressions.{may_stand, instr_of, no_code, with_instr, is_closed, constant_body, function_body}
use Rattle.wasm_format.specs.Sections.{global_of, element_of, segment_of, with_types, with_imports, with_functions, with_tables, with_memories, with_globals, with_exports, with_start, with_elements, with_bodies, with_segments, with_custom, may_follow, measured, no_sections, has_bodies}
use Rattle.wasm_bytes.specs.Tables.{header}

-- ---- types (5.3)

-- The byte says which type, and a float type is noted where it stands.
abbrev pub valtype : Noted ValType → Spellings
valtype t at = image (valtype_of at) (one_of is_valtype) t at

-- a vector of values that may hold floats
abbrev pub noted_vector : {A : Type 0} → (Noted A → Spellings) → Noted (List A) → Spellings
noted_vector S = image together (vector S)

abbrev pub functype : Noted FuncType → Spellings
functype = image functype_of (pair (always (byte 0x60)) (pair (noted_vector valtype) (noted_vector valtype)))

abbrev pub limits_tail : ℕ → Limits → Spellings
limits_tail flag =
    on_test (flag == 0x00) (image least u32)
    (on_test (flag == 0x01) (image bounded (pair u32 u32))
    no_spelling)

abbrev pub limits : Limits → Spellings
limits = tagged limits_tail

abbrev pub table : Limits → Spellings
table l = byte 0x70 & limits l

abbrev pub mutability : Bool → Spellings
mutability = image is_variable (one_of is_mutability)

abbrev pub globaltype : Noted ValType × Bool → Spellings
globaltype = pair valtype mutability

-- ---- imports and exports (5.5.5, 5.5.10)

abbrev pub import_tail : List ℕ × List ℕ → ℕ → Noted Imported → Spellings
import_tail names kind =
    on_test (kind == 0x00) (image (function_import names) u32)
    (on_test (kind == 0x01) (image table_import table)
    (on_test (kind == 0x02) (image memory_import limits)
    (on_test (kind == 0x03) (image global_import globaltype)
    no_spelling)))

abbrev pub import_entry : Noted Imported → Spellings
import_entry = leads (pair name name) (λ names. tagged (import_tail names))

abbrev pub export_kind : ExportKind → Spellings
export_kind = image export_kind_of (one_of is_export_kind)

abbrev pub export_entry : Export → Spellings
export_entry = image export_of (pair name (pair export_kind u32))

-- ---- expressions (5.4.6)

-- one more instruction, from the offset where it stands up to the one behind it
abbrev pub instr_entry : Expression → Expression → Spellings
instr_entry e = image (with_instr e) (pair here (pair (passing (λ x. may_stand e.blocks (instr_of x)) (first_and (instruction (length e.targets)))) here))

-- the instructions up to the `end` of the expression, whose code offsets count from that offset
abbrev pub expression_entries : ℕ → Expression → Spellings
expression_entries origin = steps_to_done is_closed instr_entry (no_code origin)

-- an expression that stands alone: its code offsets count from its first byte
abbrev pub expression : Noted Body → Spellings
expression b at = image constant_body (expression_entries at) b at

-- ---- bodies (5.5.13)

-- a group of locals, behind those before it
abbrev pub group_entry : Locals → Locals → Spellings
group_entry s = image (with_group s) (pair (passing (is_room s) u32) valtype)

abbrev pub locals : Locals → Spellings
locals = leads u32 (λ n. steps group_entry n no_locals)

-- the locals and the expression of a function, whose code offsets count from the locals
abbrev pub code_contents : ℕ → Noted Body → Spellings
code_contents origin b at = leads locals (λ l. image (function_body origin at l) (expression_entries at)) b at

-- a body in a section whose contents begin at that offset
abbrev pub code : ℕ → Noted Body → Spellings
code origin b = sized (code_contents origin b)

-- the bodies of so many functions
abbrev pub bodies : ℕ → Noted (List Body) → Spellings
bodies due bs at = image together (λ list at' bytes. (length list ≡ due) × vector (code at) list at' bytes) bs at

-- ---- globals and segments (5.5.9, 5.5.12, 5.5.14)

abbrev pub global_entry : Noted Global → Spellings
global_entry = image global_of (pair globaltype expression)

abbrev pub element_entry : Noted ElementSeg → Spellings
element_entry = image element_of (pair u32 (pair expression (vector u32)))

abbrev pub segment_entry : Noted DataSeg → Spellings
segment_entry = image segment_of (pair u32 (pair expression sized_run))

-- ---- sections (5.5.2)

-- the contents of a section of that id, and what the sections up to it say
abbrev pub contents : SpelledModule → ℕ → SpelledModule → Spellings
contents s id =
    on_test (id == 1) (image (with_types s) (noted_vector functype))
    (on_test (id == 2) (image (with_imports s) (noted_vector import_entry))
    (on_test (id == 3) (image (with_functions s) (vector u32))
    (on_test (id == 4) (image (with_tables s) (vector table))
    (on_test (id == 5) (image (with_memories s) (vector limits))
    (on_test (id == 6) (image (with_globals s) (noted_vector global_entry))
    (on_test (id == 7) (image (with_exports s) (vector export_entry))
    (on_test (id == 8) (image (with_start s) u32)
    (on_test (id == 9) (image (with_elements s) (noted_vector element_entry))
    (on_test (id == 10) (image (with_bodies s) (bodies (length s.parts.functions)))
    (image (with_segments s) (noted_vector segment_entry)))))))))))

-- a custom section (5.5.3): its name, and any bytes
abbrev pub custom_contents : SpelledModule → SpelledModule → Spellings
custom_contents s = image (with_custom s) (pair name (pair here text))

-- what stands behind the id of a section, where the id is at that offset
abbrev pub section_tail : SpelledModule → ℕ → ℕ → SpelledModule → Spellings
section_tail s from id =
    on_test (id == 0) (λ t. sized (custom_contents s t))
    (on_test (may_follow s.last id) (image (measured from) (pair (λ t. sized (contents s id t)) here))
    no_spelling)

-- a section behind those that say so, and what it adds
abbrev pub section_entry : SpelledModule → SpelledModule → Spellings
section_entry s t at = tagged (section_tail s at) t at

-- the header, and sections up to the end
abbrev pub sections : SpelledModule → Spellings
sections s = text header & some_steps section_entry no_sections s

-- a whole module
abbrev pub module_file : SpelledModule → Spellings
module_file = passing has_bodies sections
