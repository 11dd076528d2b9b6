-- Reading sections into what was gathered from those before them.
use Rattle.std.specs.Prelude.{ℕ, List, [], ◌∷◌, ◌++◌, length, Option, Some, None, Result, Ok, Err, Bool, false, true, ◌==◌, nat_lt, codes, if◌then◌else◌}
use Rattle.std.specs.Str.{bytes_eq}
use Rattle.std.specs.Option.{option_or}
use Rattle.wasm_syntax.specs.declared.value.Value.{Value}
use Rattle.wasm_syntax.specs.declared.quantity.Quantity.TheVariants.{DumpBytes, DumpPages, DumpFrames}
use Rattle.wasm_syntax.specs.Quantity.{greatest}
use Rattle.wasm_bytes.specs.Place.{Place, Read}
use Rattle.wasm_bytes.specs.Notes.{noted_vector_item}
use Rattle.wasm_bytes.specs.declared.noted.Noted.{Noted}
use Rattle.wasm_bytes.specs.Reading.{◌⊗◌, ◌▷◌, mapped, bytes_item, u32_item, name_item, rest_item, vector_item, within, choose, steps_from, steps_to_end, complete, whole}
use Rattle.dump_format.specs.declared.dump.Dump.{Dump}
use Rattle.dump_format.specs.declared.dump.Frame.{Frame}
use Rattle.dump_format.specs.declared.fault.DumpPart.{DumpPart}
use Rattle.dump_format.specs.declared.fault.DumpPart.TheVariants as parts
use Rattle.dump_format.specs.declared.fault.DumpFault.{DumpFault}
use Rattle.dump_format.specs.declared.fault.DumpFault.TheVariants.{Malformed, Limit}
use Rattle.dump_format.specs.declared.found.Found.{Found}
use Rattle.dump_format.specs.declared.found.Found.TheVariants.{Absent, Once, Repeated}
use Rattle.dump_format.specs.declared.lists.ModuleNames.{ModuleNames}
use Rattle.dump_format.specs.declared.lists.MemorySegments.{MemorySegments}
use Rattle.dump_format.specs.declared.gathered.Gathered.{Gathered}
use Rattle.dump_format.specs.Region.{Region}
use Rattle.dump_format.specs.Form.{module_item, instance_item, limits_item, segment_item, pages_of}
use Rattle.dump_format.specs.Judged.{first_of, over, at_float, at_repeated}
use Rattle.dump_format.specs.Sections.{may_follow}
use Rattle.dump_format.specs.calls.Noting.{value_noting, stack_noting}
use Rattle.wasm_bytes.specs.Tables.{header}
use Rattle.wasm_bytes.specs.Refusals.{◌orelse◌, unless_refused}

-- ---- what may stand once

abbrev pub added : {A : Type 0} → Found A → A → Found A
added Absent x = Once x
added (Once y) x = Repeated
added Repeated x = Repeated

abbrev pub found_or : {A : Type 0} → A → Found A → A
found_or other (Once x) = x
found_or other _ = other

abbrev pub is_found : {A : Type 0} → Found A → Bool
is_found Absent = false
is_found _ = true

abbrev pub is_found_again : {A : Type 0} → Found A → Bool
is_found_again Repeated = true
is_found_again _ = false

-- ---- vectors

abbrev pub with_name : ModuleNames → Place → Read ModuleNames
with_name s = mapped (λ name. record { names = s.names ++ name ∷ [] }) module_item

unfoldable pub name_step : ModuleNames → Place → Read ModuleNames
name_step = with_name

unfoldable pub module_names : Place → Read (List (List ℕ))
module_names = u32_item ▷ λ count. mapped (λ s. s.names) (steps_from name_step count (record { names = [] }))

unfoldable pub segment_step : MemorySegments → Place → Read MemorySegments
segment_step s = mapped (λ region. record s { segments = s.segments ++ region ∷ [] }) (segment_item s.memory)

unfoldable pub memory_segments : Option ℕ → Place → Read (List Region)
memory_segments memory = u32_item ▷ λ count. mapped (λ s. s.segments) (steps_from segment_step count (record { memory = memory; segments = [] }))

-- ---- sections

-- the frames of a stack
abbrev pub with_stack : Gathered → Noted (List Frame) → Gathered
with_stack g noted = record g { frames = added g.frames noted.value; first = option_or g.first noted.float }

unfoldable pub custom_gathering : Gathered → List ℕ → Place → Read Gathered
custom_gathering g name =
    if bytes_eq name (codes "core") then mapped (λ x. record g { name = added g.name x }) module_item
    else (if bytes_eq name (codes "coremodules") then mapped (λ x. record g { modules = added g.modules x }) module_names
    else (if bytes_eq name (codes "coreinstances") then mapped (λ x. record g { instances = added g.instances x }) (vector_item instance_item)
    else (if bytes_eq name (codes "corestack") then mapped (with_stack g) stack_noting
    else mapped (λ _. g) rest_item)))

abbrev pub with_globals : Gathered → Noted (List Value) → Gathered
with_globals g noted = record g { last = 6; globals = added g.globals noted.value; first = option_or g.first noted.float }

-- the size of the first memory, where one is known
abbrev pub first_memory : Found (List ℕ) → Option ℕ
first_memory found = first_of (found_or [] found)

unfoldable pub contents_gathering : Gathered → ℕ → Place → Read Gathered
contents_gathering g id =
    if id == 0 then name_item ▷ custom_gathering g
    else (if id == 5 then mapped (λ x. record g { last = 5; memories = added g.memories x }) (vector_item limits_item)
    else (if id == 6 then mapped (with_globals g) (noted_vector_item value_noting)
    else (if id == 11 then mapped (λ x. record g { last = 11; segments = added g.segments x }) (memory_segments (first_memory g.memories))
    else mapped (λ _. record g { last = id }) rest_item)))

abbrev pub gathering_behind : Gathered → ℕ → Option (Place → Read Gathered)
gathering_behind g id = if may_follow g.last id then Some (within (contents_gathering g id)) else None

unfoldable pub section_step : Gathered → Place → Read Gathered
section_step g = choose (gathering_behind g)

unfoldable pub nothing_gathered : Gathered
nothing_gathered = record {
  last = 0;
  first = None;
  name = Absent;
  modules = Absent;
  instances = Absent;
  frames = Absent;
  memories = Absent;
  globals = Absent;
  segments = Absent;
}

unfoldable pub all_gathered : Place → Read Gathered
all_gathered = mapped (λ x. x.1) (bytes_item header ⊗ steps_to_end section_step nothing_gathered)

abbrev pub has_name : Gathered → Bool
has_name g = is_found g.name

unfoldable pub gathered_item : Place → Read Gathered
gathered_item = complete has_name all_gathered

-- ---- what was gathered in all

unfoldable pub repeated_in : Gathered → Option DumpPart
repeated_in g =
    if is_found_again g.name then Some parts.Core
    else (if is_found_again g.modules then Some parts.CoreModules
    else (if is_found_again g.instances then Some parts.CoreInstances
    else (if is_found_again g.frames then Some parts.CoreStack
    else (if nat_lt 1 (length (found_or [] g.memories)) then Some parts.Memory
    else None))))

abbrev pub too_many_in : Gathered → Option DumpFault
too_many_in g = over DumpPages (pages_of (first_memory g.memories)) orelse over DumpFrames (length (found_or [] g.frames))

unfoldable pub refusal_in : Gathered → Option DumpFault
refusal_in g =
    at_float g.first orelse at_repeated (repeated_in g) orelse too_many_in g

unfoldable pub dump_in : Gathered → Dump
dump_in g = record {
  name = found_or [] g.name;
  modules = found_or [] g.modules;
  instances = found_or [] g.instances;
  frames = found_or [] g.frames;
  memory = first_memory g.memories;
  globals = found_or [] g.globals;
  segments = found_or [] g.segments;
}

abbrev pub judged_in : Result Gathered ℕ → Result Dump DumpFault
judged_in (Ok g) = unless_refused (refusal_in g) (dump_in g)
judged_in (Err at) = Err (Malformed at)

unfoldable pub dump_gathered : List ℕ → Result Dump DumpFault
dump_gathered bytes = if nat_lt (greatest DumpBytes) (length bytes) then Err (Limit DumpBytes (length bytes)) else judged_in (whole gathered_item bytes)
