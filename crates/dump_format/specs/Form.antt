-- Reading the parts of a dump (tool-conventions Coredump.md; Core 5.2 and 5.5).
use Rattle.std.specs.Prelude.{ℕ, ℤ, ◌+◌, ◌*◌, List, length, Option, Some, None, Bool, ◌&&◌, ◌==◌, nat_le, is_some, if◌then◌else◌}
use Rattle.std.specs.Int.{w32, w64, cast_unsigned}
use Rattle.wasm_syntax.specs.declared.value.Seen.{Seen}
use Rattle.wasm_syntax.specs.declared.value.Seen.TheVariants as seen
use Rattle.wasm_syntax.specs.declared.value.Value.{Value}
use Rattle.wasm_syntax.specs.declared.value.Value.TheVariants as value
use Rattle.wasm_bytes.specs.Place.{Place, Read}
use Rattle.wasm_bytes.specs.Reading.{◌⊗◌, ◌▷◌, mapped, fixed_item, one_of_item, run_item, u32_item, s32_item, s64_item, name_item, here_item, done_item, checked, choose, vector_item, sized_run_item}
use Rattle.dump_format.specs.declared.dump.Instance.{Instance}
use Rattle.dump_format.specs.Region.{Region}
use Rattle.dump_format.specs.Parts.{Shown, known, float, ShownFrame}

-- ---- values

abbrev pub known_i32 : ℤ → Shown Seen
known_i32 z = known (seen.I32 (cast_unsigned w32 z))

abbrev pub known_i64 : ℤ → Shown Seen
known_i64 z = known (seen.I64 (cast_unsigned w64 z))

-- a float of so many bytes, which began at that offset
abbrev pub float_behind : {A : Type 0} → ℕ → ℕ → Place → Read (Shown A)
float_behind at width = mapped (λ _. float at) (run_item width)

-- what stands behind the tag of a value, where the tag is at that offset
abbrev pub value_behind : ℕ → ℕ → Option (Place → Read (Shown Seen))
value_behind at tag =
    if tag == 0x01 then Some (done_item (known seen.Missing))
    else (if tag == 0x7f then Some (mapped known_i32 s32_item)
    else (if tag == 0x7e then Some (mapped known_i64 s64_item)
    else (if tag == 0x7d then Some (float_behind at 4)
    else (if tag == 0x7c then Some (float_behind at 8)
    else None))))

unfoldable pub value_item : Place → Read (Shown Seen)
value_item = here_item ▷ λ at. choose (value_behind at)

-- ---- modules, instances and frames

unfoldable pub module_item : Place → Read (List ℕ)
module_item = mapped (λ x. x.1) (fixed_item 0x00 ⊗ name_item)

abbrev pub instance_of : Unit {0} × (ℕ × (List ℕ × List ℕ)) → Instance
instance_of x = record { «module» = x.1.0; memories = x.1.1.0; globals = x.1.1.1 }

unfoldable pub instance_item : Place → Read Instance
instance_item = mapped instance_of (fixed_item 0x00 ⊗ u32_item ⊗ vector_item u32_item ⊗ vector_item u32_item)

-- the instance, the function and the code offset of a frame
unfoldable pub place_item : Place → Read (Unit {0} × (ℕ × (ℕ × ℕ)))
place_item = fixed_item 0x00 ⊗ u32_item ⊗ u32_item ⊗ u32_item

abbrev pub shown_frame_of : (Unit {0} × (ℕ × (ℕ × ℕ))) × (List (Shown Seen) × List (Shown Seen)) → ShownFrame
shown_frame_of x = record { instance = x.0.1.0; function = x.0.1.1.0; offset = x.0.1.1.1; locals = x.1.0; operands = x.1.1 }

unfoldable pub frame_item : Place → Read ShownFrame
frame_item = mapped shown_frame_of (place_item ⊗ vector_item value_item ⊗ vector_item value_item)

-- the name of a thread
unfoldable pub thread_item : Place → Read (List ℕ)
thread_item = mapped (λ x. x.1) (fixed_item 0x00 ⊗ name_item)

unfoldable pub stack_item : Place → Read (List ShownFrame)
stack_item = mapped (λ x. x.1) (thread_item ⊗ vector_item frame_item)

-- ---- memories, globals and segments

-- The size of a memory in pages is the least one of its limits.
abbrev pub limits_behind : ℕ → Option (Place → Read ℕ)
limits_behind flag =
    if flag == 0x00 then Some u32_item
    else (if flag == 0x01 then Some (mapped (λ x. x.0) (u32_item ⊗ u32_item))
    else None)

unfoldable pub limits_item : Place → Read ℕ
limits_item = choose limits_behind

-- whether a global is variable, which a dump does not tell again
unfoldable pub mutability_item : Place → Read ℕ
mutability_item = one_of_item (λ b. nat_le b 0x01)

-- the mutability, and a constant behind its opcode, in front of the `end`
unfoldable pub constant_item : {A : Type 0} → ℕ → (Place → Read A) → Place → Read A
constant_item opcode f = mapped (λ x. x.1.1.0) (mutability_item ⊗ fixed_item opcode ⊗ f ⊗ fixed_item 0x0b)

abbrev pub global_i32 : ℤ → Shown Value
global_i32 z = known (value.I32 (cast_unsigned w32 z))

abbrev pub global_i64 : ℤ → Shown Value
global_i64 z = known (value.I64 (cast_unsigned w64 z))

-- what stands behind the type of a global, where the type is at that offset
abbrev pub global_behind : ℕ → ℕ → Option (Place → Read (Shown Value))
global_behind at type =
    if type == 0x7f then Some (mapped global_i32 (constant_item 0x41 s32_item))
    else (if type == 0x7e then Some (mapped global_i64 (constant_item 0x42 s64_item))
    else (if type == 0x7d then Some (mapped (λ _. float at) (constant_item 0x43 (run_item 4)))
    else (if type == 0x7c then Some (mapped (λ _. float at) (constant_item 0x44 (run_item 8)))
    else None)))

unfoldable pub global_item : Place → Read (Shown Value)
global_item = here_item ▷ λ at. choose (global_behind at)

-- The index of a segment's memory is 0, and that memory is there.
abbrev pub is_memory : Option ℕ → ℕ → Bool
is_memory memory index = is_some memory && index == 0

abbrev pub pages_of : Option ℕ → ℕ
pages_of (Some pages) = pages
pages_of None = 0

-- A segment ends at or before the end of the memory.
abbrev pub is_inside : Option ℕ → Region → Bool
is_inside memory region = nat_le (region.at + length region.bytes) (65536 * pages_of memory)

abbrev pub region_of : ℕ × (Unit {0} × (ℤ × (Unit {0} × List ℕ))) → Region
region_of x = record { at = cast_unsigned w32 x.1.1.0; bytes = x.1.1.1.1 }

-- a segment, where the memory has that many pages
unfoldable pub segment_item : Option ℕ → Place → Read Region
segment_item memory =
    checked (is_inside memory) (mapped region_of
    (checked (is_memory memory) u32_item ⊗ fixed_item 0x41 ⊗ s32_item ⊗ fixed_item 0x0b ⊗ sized_run_item))
