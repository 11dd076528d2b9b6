-- The bytes that spell the parts of a dump (tool-conventions Coredump.md; Core 5.2 and 5.5). A part has many spellings,
-- because a number has.
use Rattle.std.specs.Prelude.{◌≡◌, ℕ, ℤ, ◌⊎◌, Bool, true, false, List, [], ◌∷◌, ◌++◌, Option, ◌==◌, nat_le, codes}
use Rattle.std.specs.Int.{w32, cast_unsigned}
use Rattle.std.specs.Str.{bytes_eq}
use Rattle.wasm_syntax.specs.declared.value.Seen.{Seen}
use Rattle.wasm_syntax.specs.declared.value.Seen.TheVariants as seen
use Rattle.wasm_syntax.specs.declared.value.Value.{Value}
use Rattle.wasm_bytes.specs.calls.Spelling.{Spellings, ◌&◌, leads, image, passing, only, byte, one_of, text, u32, s32, s64, run, sized_run, name, sized, vector, tagged, some_steps}
use Rattle.dump_format.specs.declared.dump.Instance.{Instance}
use Rattle.dump_format.specs.Region.{Region}
use Rattle.dump_format.specs.Parts.{Shown, known, float, ShownFrame, Part, core, modules, instances, stack, memories, globals, segments, custom, passed}
use Rattle.dump_format.specs.Form.{known_i32, known_i64, global_i32, global_i64, is_memory, is_inside}
use Rattle.dump_format.specs.Judged.{last_id, memory_of}
use Rattle.dump_format.specs.Sections.{may_follow, has_core}
use Rattle.wasm_bytes.specs.Tables.{header}

-- the one language where the test holds, the other one where it does not
abbrev pub on_test : {A : Type 0} → Bool → (A → Spellings) → (A → Spellings) → A → Spellings
on_test b S T x at bytes = ((b ≡ true) × S x at bytes) ⊎ ((b ≡ false) × T x at bytes)

abbrev pub no_spelling : {A : Type 0} → A → Spellings
no_spelling x at bytes = ⊥

-- ---- values

-- so many bytes of a float that began at that offset
abbrev pub float_bytes : {A : Type 0} → ℕ → ℕ → Shown A → Spellings
float_bytes at width = image (λ _. float at) (run width)

-- what comes after the tag of a value, where the tag is at that offset
abbrev pub value_tail : ℕ → ℕ → Shown Seen → Spellings
value_tail at tag =
    on_test (tag == 0x01) (only (known seen.Missing))
    (on_test (tag == 0x7f) (image known_i32 s32)
    (on_test (tag == 0x7e) (image known_i64 s64)
    (on_test (tag == 0x7d) (float_bytes at 4)
    (on_test (tag == 0x7c) (float_bytes at 8)
    no_spelling))))

abbrev pub value_entry : Shown Seen → Spellings
value_entry x at = tagged (value_tail at) x at

-- ---- modules, instances and frames

abbrev pub module_entry : List ℕ → Spellings
module_entry title = byte 0x00 & name title

abbrev pub instance_entry : Instance → Spellings
instance_entry i = byte 0x00 & u32 i.module & vector u32 i.memories & vector u32 i.globals

abbrev pub frame_entry : ShownFrame → Spellings
frame_entry f = (byte 0x00 & u32 f.instance & u32 f.function & u32 f.offset) & vector value_entry f.locals & vector value_entry f.operands

-- frames behind the name of a thread
abbrev pub stack_entry : List ShownFrame → Spellings
stack_entry frames at bytes = (thread : List ℕ) × ((byte 0x00 & name thread) & vector frame_entry frames) at bytes

-- ---- memories, globals and segments

-- what comes after the flag of limits: the least size, and the greatest one where the flag says so
abbrev pub limits_tail : ℕ → ℕ → Spellings
limits_tail flag =
    on_test (flag == 0x00) u32
    (on_test (flag == 0x01) (λ least at bytes. (greatest : ℕ) × (u32 least & u32 greatest) at bytes)
    no_spelling)

abbrev pub limits_entry : ℕ → Spellings
limits_entry = tagged limits_tail

abbrev pub mutability : ℕ → Spellings
mutability = one_of (λ b. nat_le b 0x01)

-- a constant behind its opcode
abbrev pub constant : {A : Type 0} → ℕ → (A → Spellings) → A → Spellings
constant opcode S x at bytes = (flag : ℕ) × (mutability flag & byte opcode & S x & byte 0x0b) at bytes

-- what comes after the type of a global, where the type is at that offset
abbrev pub global_tail : ℕ → ℕ → Shown Value → Spellings
global_tail at type =
    on_test (type == 0x7f) (image global_i32 (constant 0x41 s32))
    (on_test (type == 0x7e) (image global_i64 (constant 0x42 s64))
    (on_test (type == 0x7d) (image (λ _. float at) (constant 0x43 (run 4)))
    (on_test (type == 0x7c) (image (λ _. float at) (constant 0x44 (run 8)))
    no_spelling)))

abbrev pub global_entry : Shown Value → Spellings
global_entry x at = tagged (global_tail at) x at

-- a segment of a memory that has so many pages
abbrev pub segment_body : Option ℕ → Region → Spellings
segment_body memory r at bytes =
    (index : ℕ) × (address : ℤ) × (cast_unsigned w32 address ≡ r.at)
    × (passing (is_memory memory) u32 index & byte 0x41 & s32 address & byte 0x0b & sized_run r.bytes) at bytes

-- It lies inside the memory.
abbrev pub segment_entry : Option ℕ → Region → Spellings
segment_entry memory = passing (is_inside memory) (segment_body memory)

-- ---- sections

-- what comes after the name of a custom section
abbrev pub custom_tail : List ℕ → Part → Spellings
custom_tail title =
    on_test (bytes_eq title (codes "core")) (image core module_entry)
    (on_test (bytes_eq title (codes "coremodules")) (image modules (vector module_entry))
    (on_test (bytes_eq title (codes "coreinstances")) (image instances (vector instance_entry))
    (on_test (bytes_eq title (codes "corestack")) (image stack stack_entry)
    (image (λ _. custom) text))))

-- the contents of a section of that id
abbrev pub contents : Option ℕ → ℕ → Part → Spellings
contents memory id =
    on_test (id == 0) (leads name custom_tail)
    (on_test (id == 5) (image memories (vector limits_entry))
    (on_test (id == 6) (image globals (vector global_entry))
    (on_test (id == 11) (image segments (vector (segment_entry memory)))
    (image (λ _. passed id) text))))

-- what comes after the id of a section
abbrev pub section_tail : List Part → ℕ → Part → Spellings
section_tail before id = on_test (may_follow (last_id before) id) (λ part. sized (contents (memory_of before) id part)) no_spelling

-- a section behind those parts
abbrev pub section_entry : List Part → Part → Spellings
section_entry before = tagged (section_tail before)

-- those parts, and one more
abbrev pub one_section : List Part → List Part → Spellings
one_section before = image (λ part. before ++ part ∷ []) (section_entry before)

abbrev pub sections : List Part → Spellings
sections ps = text header & some_steps one_section [] ps

-- a whole file
abbrev pub dump_file : List Part → Spellings
dump_file = passing has_core sections
