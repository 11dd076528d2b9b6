-- The names of functions, by the custom section `name` (Core, appendix "Custom Sections", A.4.1).
use Rattle.std.specs.Prelude.{ℕ, ◌+◌, List, [], ◌∷◌, ◌++◌, length, take, fold, Option, Some, None, Ok, Err, Bool, ◌&&◌, ◌==◌, not, is_some, nat_eq, nat_le, codes, if◌then◌else◌, unwrap_or}
use Rattle.std.specs.Str.{bytes_eq}
use Rattle.std.specs.Map.{lookup}
use Rattle.wasm_syntax.specs.declared.parts.Custom.{Custom}
use Rattle.wasm_bytes.specs.Place.{Place, Read}
use Rattle.wasm_bytes.specs.Reading.{◌⊗◌, ◌▷◌, mapped, byte_item, u32_item, name_item, rest_item, vector_item, within, steps_from, steps_to_end}

-- ---- names

-- an index and a name
abbrev pub Named : Type 0
Named = ℕ × List ℕ

-- the name of a function: the first one of its index
abbrev pub name_of : List Named → ℕ → Option (List ℕ)
name_of names function = lookup (nat_eq function) names

-- a list with one more name, where its index has none yet
abbrev pub with_name : List Named → Named → List Named
with_name names x = if is_some (name_of names x.0) then names else names ++ x ∷ []

abbrev pub firsts : List Named → List Named
firsts names = fold with_name [] names

-- ---- subsections

unfoldable pub named_item : Place → Read Named
named_item = u32_item ⊗ name_item

-- a vector of names, of which the first one of each index is kept
unfoldable pub names_item : Place → Read (List Named)
names_item = mapped firsts (vector_item named_item)

-- Only the first subsection with id 1 counts. All others are passed over.
abbrev pub counts : Option (List Named) → ℕ → Bool
counts found id = id == 1 && not (is_some found)

abbrev pub subsection_behind : Option (List Named) → ℕ → Place → Read (Option (List Named))
subsection_behind found id = if counts found id then mapped Some (within names_item) else mapped (λ bytes. found) (within rest_item)

unfoldable pub subsection_step : Option (List Named) → Place → Read (Option (List Named))
subsection_step found = byte_item ▷ subsection_behind found

-- ---- the section

-- Where an item has no reading there are no names.
abbrev pub found_names : Read (Option (List Named)) → List Named
found_names (Ok x) = unwrap_or x.0 []
found_names (Err at) = []

-- what stands behind the name of a custom section
abbrev pub behind_title : List ℕ → Custom → Place
behind_title bytes custom = record { block = take (custom.at + custom.len) bytes; at = custom.at }

unfoldable pub names_in : List ℕ → Custom → List Named
names_in bytes custom = if nat_le (custom.at + custom.len) (length bytes) then found_names (steps_to_end subsection_step None (behind_title bytes custom)) else []

-- the names that the first custom section `name` gives
abbrev pub names_from : List ℕ → List Custom → List Named
names_from bytes [] = []
names_from bytes (custom ∷ customs) = if bytes_eq custom.name (codes "name") then names_in bytes custom else names_from bytes customs

-- ---- reading one name after another

unfoldable pub name_step : List Named → Place → Read (List Named)
name_step names = mapped (with_name names) named_item

unfoldable pub name_steps : Place → Read (List Named)
name_steps = u32_item ▷ λ count. steps_from name_step count []
