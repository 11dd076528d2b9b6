-- Where a module stops being one: the offset of the first item without a reading, or of the end where an item is due.
use Rattle.std.specs.Prelude.{ℕ, length, ◌==◌}
use Rattle.wasm_bytes.specs.calls.Spelling.{pair, always, passing, byte, one_of, text, u32, name}
use Rattle.wasm_bytes.specs.calls.Stopping.{Stops, never, unread, either, behind, then_stops, refused, incomplete, text_stops, sized_run_stops, closed_stops, sized_stops, tagged_stops, items_stops, vector_stops, steps_stops, steps_to_end_stops, steps_until_done_stops}
use Rattle.wasm_format.specs.calls.InstructionGrammar.{instruction}
use Rattle.wasm_format.specs.calls.InstructionBreaking.{instruction_stops}
use Rattle.wasm_format.specs.declared.expression.Expression.{Expression}
use Rattle.wasm_format.specs.declared.expression.Locals.{Locals}
use Rattle.wasm_format.specs.declared.module.SpelledModule.{SpelledModule}
use Rattle.wasm_format.specs.calls.Choices.{stops_on_test, or_else, first_and}
use Rattle.wasm_format.specs.Form.{is_valtype, is_mutability, is_export_kind, no_locals, is_room}
use Rattle.wasm_format.specs.Expressions.{may_stand, instr_of, no_code, is_closed}
use Rattle.wasm_format.specs.Sections.{may_follow, no_sections, has_bodies}
use Rattle.wasm_format.specs.calls.Grammar.{valtype, noted_vector, functype, limits, table, globaltype, import_entry, export_kind, export_entry, instr_entry, expression, group_entry, locals, code_contents, code, global_entry, element_entry, segment_entry, contents, section_entry, sections}
use Rattle.wasm_bytes.specs.Tables.{header}

abbrev pub no_byte : ℕ → Stops
no_byte b = unread (always (byte b))

-- ---- types

abbrev pub no_valtype : Stops
no_valtype = unread (one_of is_valtype)

abbrev pub valtypes_stops : Stops
valtypes_stops = vector_stops valtype no_valtype

abbrev pub functype_stops : Stops
functype_stops = then_stops (always (byte 0x60)) (no_byte 0x60) (then_stops (noted_vector valtype) valtypes_stops valtypes_stops)

abbrev pub IsLimitsFlag : ℕ → Type 0
IsLimitsFlag flag = or_else (flag == 0x00) (or_else (flag == 0x01) ⊥)

abbrev pub limits_tail_stops : ℕ → Stops
limits_tail_stops flag =
    stops_on_test (flag == 0x00) (unread u32)
    (stops_on_test (flag == 0x01) (then_stops u32 (unread u32) (unread u32))
    never)

abbrev pub limits_stops : Stops
limits_stops = tagged_stops IsLimitsFlag limits_tail_stops

abbrev pub table_stops : Stops
table_stops = then_stops (always (byte 0x70)) (no_byte 0x70) limits_stops

abbrev pub globaltype_stops : Stops
globaltype_stops = then_stops valtype no_valtype (unread (one_of is_mutability))

-- ---- imports and exports

abbrev pub IsImportKind : ℕ → Type 0
IsImportKind kind = or_else (kind == 0x00) (or_else (kind == 0x01) (or_else (kind == 0x02) (or_else (kind == 0x03) ⊥)))

abbrev pub import_tail_stops : ℕ → Stops
import_tail_stops kind =
    stops_on_test (kind == 0x00) (unread u32)
    (stops_on_test (kind == 0x01) table_stops
    (stops_on_test (kind == 0x02) limits_stops
    (stops_on_test (kind == 0x03) globaltype_stops
    never)))

abbrev pub names_stops : Stops
names_stops = then_stops name (unread name) (unread name)

abbrev pub import_stops : Stops
import_stops = then_stops (pair name name) names_stops (tagged_stops IsImportKind import_tail_stops)

abbrev pub export_stops : Stops
export_stops = then_stops name (unread name) (then_stops export_kind (unread (one_of is_export_kind)) (unread u32))

-- ---- expressions and bodies

-- no instruction, or one that may not stand there
abbrev pub instr_stops : Expression → Stops
instr_stops e = either instruction_stops (refused (λ x. may_stand e.blocks (instr_of x)) (first_and (instruction (length e.targets))))

abbrev pub expression_stops_from : ℕ → Stops
expression_stops_from origin = steps_until_done_stops is_closed instr_entry instr_stops (no_code origin)

abbrev pub expression_stops : Stops
expression_stops at = expression_stops_from at at

abbrev pub group_stops : Locals → Stops
group_stops s = then_stops (passing (is_room s) u32) (unread (passing (is_room s) u32)) no_valtype

abbrev pub locals_stops : Stops
locals_stops = either (unread u32) (behind u32 (λ n. steps_stops group_entry group_stops n no_locals))

abbrev pub code_contents_stops : Stops
code_contents_stops at = either locals_stops (behind locals (λ l. expression_stops_from at)) at

abbrev pub code_stops : ℕ → Stops
code_stops origin = sized_stops (closed_stops (code_contents origin) code_contents_stops)

-- another count than that of the functions, or a body
abbrev pub bodies_stops : ℕ → Stops
bodies_stops due at =
    either (unread (passing (λ n. n == due) u32)) (behind (passing (λ n. n == due) u32) (items_stops (code at) (code_stops at))) at

-- ---- globals and segments

abbrev pub global_stops : Stops
global_stops = then_stops globaltype globaltype_stops expression_stops

abbrev pub element_stops : Stops
element_stops = then_stops u32 (unread u32) (then_stops expression expression_stops (vector_stops u32 (unread u32)))

abbrev pub segment_stops : Stops
segment_stops = then_stops u32 (unread u32) (then_stops expression expression_stops sized_run_stops)

-- ---- sections

abbrev pub items_of_section : ℕ → ℕ → Stops
items_of_section functions id =
    stops_on_test (id == 1) (vector_stops functype functype_stops)
    (stops_on_test (id == 2) (vector_stops import_entry import_stops)
    (stops_on_test (id == 3) (vector_stops u32 (unread u32))
    (stops_on_test (id == 4) (vector_stops table table_stops)
    (stops_on_test (id == 5) (vector_stops limits limits_stops)
    (stops_on_test (id == 6) (vector_stops global_entry global_stops)
    (stops_on_test (id == 7) (vector_stops export_entry export_stops)
    (stops_on_test (id == 8) (unread u32)
    (stops_on_test (id == 9) (vector_stops element_entry element_stops)
    (stops_on_test (id == 10) (bodies_stops functions)
    (vector_stops segment_entry segment_stops))))))))))

abbrev pub contents_stops : SpelledModule → ℕ → Stops
contents_stops s id = closed_stops (contents s id) (items_of_section (length s.parts.functions) id)

-- behind the name of a custom section all is read
abbrev pub section_tail_stops : SpelledModule → ℕ → Stops
section_tail_stops s id =
    stops_on_test (id == 0) (sized_stops (unread name))
    (stops_on_test (may_follow s.last id) (sized_stops (contents_stops s id))
    never)

abbrev pub IsNextId : SpelledModule → ℕ → Type 0
IsNextId s id = or_else (id == 0) (or_else (may_follow s.last id) ⊥)

abbrev pub section_stops : SpelledModule → Stops
section_stops s = tagged_stops (IsNextId s) (section_tail_stops s)

abbrev pub sections_stops : Stops
sections_stops = then_stops (always (text header)) (text_stops header) (steps_to_end_stops section_entry section_stops no_sections)

-- The header or a section stops, or a body is still due at the end.
abbrev pub module_stops : Stops
module_stops = either sections_stops (incomplete has_bodies sections)
