-- Where a dump stops being one: the offset of the first item without a reading, or of the end where an item is due.
use Rattle.std.specs.Prelude.{◌≡◌, ℕ, ◌⊎◌, Bool, true, false, List, [], Option, ◌==◌, codes}
use Rattle.std.specs.Str.{bytes_eq}
use Rattle.wasm_bytes.specs.calls.Spelling.{Spellings, pair, always, image, passing, byte, text, u32, s32, s64, run, name, vector}
use Rattle.wasm_bytes.specs.calls.Stopping.{Stops, never, unread, either, behind, then_stops, refused, incomplete, text_stops, sized_run_stops, closed_stops, sized_stops, tagged_stops, vector_stops, steps_to_end_stops}
use Rattle.dump_format.specs.Parts.{Part, core, modules, instances, stack, memories, globals, segments}
use Rattle.dump_format.specs.Form.{is_memory, is_inside}
use Rattle.dump_format.specs.Judged.{last_id, memory_of}
use Rattle.dump_format.specs.Sections.{may_follow, has_core}
use Rattle.dump_format.specs.calls.Grammar.{value_entry, module_entry, instance_entry, frame_entry, stack_entry, limits_entry, mutability, global_entry, segment_body, segment_entry, one_section, sections}
use Rattle.wasm_bytes.specs.Tables.{header}

-- the one way to stop where the test holds, the other one where it does not
abbrev pub stops_on_test : Bool → Stops → Stops → Stops
stops_on_test b s t at bytes o = ((b ≡ true) × s at bytes o) ⊎ ((b ≡ false) × t at bytes o)

-- The test holds, or else the other fact does.
abbrev pub or_else : Bool → Type 0 → Type 0
or_else b P = (b ≡ true) ⊎ ((b ≡ false) × P)

abbrev pub no_byte : ℕ → Stops
no_byte b = unread (always (byte b))

-- ---- values

abbrev pub IsValueTag : ℕ → Type 0
IsValueTag tag = or_else (tag == 0x01) (or_else (tag == 0x7f) (or_else (tag == 0x7e) (or_else (tag == 0x7d) (or_else (tag == 0x7c) ⊥))))

abbrev pub value_tail_stops : ℕ → Stops
value_tail_stops tag =
    stops_on_test (tag == 0x01) never
    (stops_on_test (tag == 0x7f) (unread s32)
    (stops_on_test (tag == 0x7e) (unread s64)
    (stops_on_test (tag == 0x7d) (unread (run 4))
    (stops_on_test (tag == 0x7c) (unread (run 8))
    never))))

abbrev pub value_stops : Stops
value_stops = tagged_stops IsValueTag value_tail_stops

-- ---- modules, instances and frames

abbrev pub module_stops : Stops
module_stops = then_stops (always (byte 0x00)) (no_byte 0x00) (unread name)

abbrev pub indices_stops : Stops
indices_stops = vector_stops u32 (unread u32)

abbrev pub instance_stops : Stops
instance_stops = then_stops (always (byte 0x00)) (no_byte 0x00) (then_stops u32 (unread u32) (then_stops (vector u32) indices_stops indices_stops))

abbrev pub place_stops : Stops
place_stops = then_stops (always (byte 0x00)) (no_byte 0x00) (then_stops u32 (unread u32) (then_stops u32 (unread u32) (unread u32)))

abbrev pub values_stops : Stops
values_stops = vector_stops value_entry value_stops

abbrev pub frame_stops : Stops
frame_stops = then_stops (pair (always (byte 0x00)) (pair u32 (pair u32 u32))) place_stops (then_stops (vector value_entry) values_stops values_stops)

abbrev pub stack_stops : Stops
stack_stops = then_stops module_entry module_stops (vector_stops frame_entry frame_stops)

-- ---- memories, globals and segments

abbrev pub IsLimitsFlag : ℕ → Type 0
IsLimitsFlag flag = or_else (flag == 0x00) (or_else (flag == 0x01) ⊥)

abbrev pub limits_tail_stops : ℕ → Stops
limits_tail_stops flag =
    stops_on_test (flag == 0x00) (unread u32)
    (stops_on_test (flag == 0x01) (then_stops u32 (unread u32) (unread u32))
    never)

abbrev pub limits_stops : Stops
limits_stops = tagged_stops IsLimitsFlag limits_tail_stops

abbrev pub constant_stops : {A : Type 0} → ℕ → (A → Spellings) → Stops → Stops
constant_stops opcode S stops = then_stops mutability (unread mutability) (then_stops (always (byte opcode)) (no_byte opcode) (then_stops S stops (no_byte 0x0b)))

abbrev pub IsGlobalType : ℕ → Type 0
IsGlobalType type = or_else (type == 0x7f) (or_else (type == 0x7e) (or_else (type == 0x7d) (or_else (type == 0x7c) ⊥)))

abbrev pub global_tail_stops : ℕ → Stops
global_tail_stops type =
    stops_on_test (type == 0x7f) (constant_stops 0x41 s32 (unread s32))
    (stops_on_test (type == 0x7e) (constant_stops 0x42 s64 (unread s64))
    (stops_on_test (type == 0x7d) (constant_stops 0x43 (run 4) (unread (run 4)))
    (stops_on_test (type == 0x7c) (constant_stops 0x44 (run 8) (unread (run 8)))
    never)))

abbrev pub global_stops : Stops
global_stops = tagged_stops IsGlobalType global_tail_stops

-- the index of a memory that is not 0, or not there
abbrev pub no_memory : Option ℕ → Stops
no_memory memory = unread (passing (is_memory memory) u32)

abbrev pub segment_parts_stops : Option ℕ → Stops
segment_parts_stops memory =
    then_stops (passing (is_memory memory) u32) (no_memory memory) (then_stops (always (byte 0x41)) (no_byte 0x41) (then_stops s32 (unread s32)
    (then_stops (always (byte 0x0b)) (no_byte 0x0b) sized_run_stops)))

-- an item of a segment, or a segment that is there and passes the end of the memory
abbrev pub segment_stops : Option ℕ → Stops
segment_stops memory = either (segment_parts_stops memory) (refused (is_inside memory) (segment_body memory))

-- ---- sections

abbrev pub custom_tail_stops : List ℕ → Stops
custom_tail_stops title =
    stops_on_test (bytes_eq title (codes "core")) (closed_stops (image core module_entry) module_stops)
    (stops_on_test (bytes_eq title (codes "coremodules")) (closed_stops (image modules (vector module_entry)) (vector_stops module_entry module_stops))
    (stops_on_test (bytes_eq title (codes "coreinstances")) (closed_stops (image instances (vector instance_entry)) (vector_stops instance_entry instance_stops))
    (stops_on_test (bytes_eq title (codes "corestack")) (closed_stops (image stack stack_entry) stack_stops)
    never)))

abbrev pub contents_stops : Option ℕ → ℕ → Stops
contents_stops memory id =
    stops_on_test (id == 0) (either (unread name) (behind name custom_tail_stops))
    (stops_on_test (id == 5) (closed_stops (image memories (vector limits_entry)) (vector_stops limits_entry limits_stops))
    (stops_on_test (id == 6) (closed_stops (image globals (vector global_entry)) (vector_stops global_entry global_stops))
    (stops_on_test (id == 11) (closed_stops (image segments (vector (segment_entry memory))) (vector_stops (segment_entry memory) (segment_stops memory)))
    never)))

abbrev pub IsNextId : List Part → ℕ → Type 0
IsNextId before id = or_else (may_follow (last_id before) id) ⊥

abbrev pub section_stops : List Part → Stops
section_stops before = tagged_stops (IsNextId before) (λ id. stops_on_test (may_follow (last_id before) id) (sized_stops (contents_stops (memory_of before) id)) never)

abbrev pub sections_stops : Stops
sections_stops = then_stops (always (text header)) (text_stops header) (steps_to_end_stops one_section section_stops [])

-- The header or a section stops, or no section `core` is there.
abbrev pub dump_stops : Stops
dump_stops = either sections_stops (incomplete has_core sections)
