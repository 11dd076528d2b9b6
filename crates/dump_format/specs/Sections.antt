-- Reading a dump as a list of sections (Core 5.5.2).
use Rattle.std.specs.Prelude.{ℕ, List, [], ◌∷◌, ◌++◌, Option, Some, None, Bool, ◌&&◌, ◌||◌, ◌==◌, nat_lt, nat_le, is_some, codes, if◌then◌else◌}
use Rattle.std.specs.List.{flat_map}
use Rattle.std.specs.Str.{bytes_eq}
use Rattle.wasm_bytes.specs.Place.{Place, Read}
use Rattle.wasm_bytes.specs.Reading.{◌⊗◌, ◌▷◌, mapped, bytes_item, name_item, rest_item, vector_item, within, choose, complete, steps_to_end}
use Rattle.dump_format.specs.Parts.{Part, core, modules, instances, stack, memories, globals, segments, custom, passed}
use Rattle.dump_format.specs.Form.{module_item, instance_item, stack_item, limits_item, global_item, segment_item}
use Rattle.dump_format.specs.Judged.{last_id, memory_of, first_of, names_in}
use Rattle.wasm_bytes.specs.Tables.{header}

-- a custom section, behind its name
unfoldable pub custom_behind : List ℕ → Place → Read Part
custom_behind name =
    if bytes_eq name (codes "core") then mapped core module_item
    else (if bytes_eq name (codes "coremodules") then mapped modules (vector_item module_item)
    else (if bytes_eq name (codes "coreinstances") then mapped instances (vector_item instance_item)
    else (if bytes_eq name (codes "corestack") then mapped stack stack_item
    else mapped (λ _. custom) rest_item)))

unfoldable pub custom_item : Place → Read Part
custom_item = name_item ▷ custom_behind

-- the contents of a section, where the memory has that many pages
unfoldable pub contents_item : Option ℕ → ℕ → Place → Read Part
contents_item memory id =
    if id == 0 then custom_item
    else (if id == 5 then mapped memories (vector_item limits_item)
    else (if id == 6 then mapped globals (vector_item global_item)
    else (if id == 11 then mapped segments (vector_item (segment_item memory))
    else mapped (λ _. passed id) rest_item)))

-- Ids other than 0 rise strictly, up to 11.
abbrev pub may_follow : ℕ → ℕ → Bool
may_follow last id = id == 0 || (nat_lt last id && nat_le id 11)

abbrev pub section_behind : List Part → ℕ → Option (Place → Read Part)
section_behind ps id = if may_follow (last_id ps) id then Some (within (contents_item (memory_of ps) id)) else None

-- a section behind those parts
unfoldable pub section_item : List Part → Place → Read Part
section_item ps = choose (section_behind ps)

abbrev pub with_section : List Part → Place → Read (List Part)
with_section ps = mapped (λ part. ps ++ part ∷ []) (section_item ps)

unfoldable pub sections_item : Place → Read (List Part)
sections_item = mapped (λ x. x.1) (bytes_item header ⊗ steps_to_end with_section [])

-- A section `core` is due.
abbrev pub has_core : List Part → Bool
has_core ps = is_some (first_of (flat_map names_in ps))

unfoldable pub parts_item : Place → Read (List Part)
parts_item = complete has_core sections_item
