-- The bytes that spell the names of functions (Core, appendix "Custom Sections", A.4.1), and which names a module has by them.
use Rattle.std.specs.Prelude.{◌≡◌, ◌≢◌, ℕ, ◌+◌, ◌<◌, ◌≤◌, ◌⊎◌, List, [], ◌∷◌, length, slice_range, Option, None, codes, Some, unwrap_or}
use Rattle.wasm_syntax.specs.declared.parts.Custom.{Custom}
use Rattle.wasm_bytes.specs.calls.Spelling.{Spellings, pair, leads, image, byte, u32, text, name, sized, vector, some_steps}
use Rattle.wasm_bytes.specs.calls.Stopping.{Stops, never, unread, either, behind, then_stops, closed_stops, sized_stops, vector_stops, steps_to_end_stops}
use Rattle.wasm_format.specs.calls.Choices.{on_test, stops_on_test}
use Rattle.wasm_decode.specs.Names.{Named, firsts, counts}

-- ---- the language

-- an index and a name
abbrev pub naming : Named → Spellings
naming = pair u32 name

-- a vector of them; of each index the first one counts
abbrev pub name_map : List Named → Spellings
name_map = image firsts (vector naming)

-- What stands behind the id of a subsection is a size and as many bytes. Those of the first one with id 1 are names of
-- functions, those of any other are passed over.
abbrev pub subsection_tail : Option (List Named) → ℕ → Option (List Named) → Spellings
subsection_tail found id = on_test (counts found id) (image Some (λ names. sized (name_map names))) (image (λ bytes. found) (λ bytes. sized (text bytes)))

-- a subsection, from what was found before it to what is found with it
abbrev pub subsection : Option (List Named) → Option (List Named) → Spellings
subsection found = leads byte (subsection_tail found)

-- subsections up to the end, and what is found in them
abbrev pub subsections : Option (List Named) → Spellings
subsections = some_steps subsection None

-- ---- where an item has no reading

abbrev pub naming_stops : Stops
naming_stops = then_stops u32 (unread u32) (unread name)

abbrev pub name_map_stops : Stops
name_map_stops = closed_stops name_map (vector_stops naming naming_stops)

abbrev pub subsection_tail_stops : Option (List Named) → ℕ → Stops
subsection_tail_stops found id = stops_on_test (counts found id) (sized_stops name_map_stops) (sized_stops never)

abbrev pub subsection_stops : Option (List Named) → Stops
subsection_stops found = either (unread byte) (behind byte (subsection_tail_stops found))

abbrev pub subsections_stop : Stops
subsections_stop = steps_to_end_stops subsection subsection_stops None

-- ---- the names of a module

-- what stands behind the title of a custom section
abbrev pub behind_its_title : List ℕ → Custom → List ℕ
behind_its_title bytes custom = slice_range bytes custom.at (custom.at + custom.len)

-- The section lies inside the bytes, and what stands behind its title gives these names.
abbrev pub SpellsNames : List ℕ → Custom → List Named → Type 0
SpellsNames bytes custom names =
    (custom.at + custom.len ≤ length bytes)
    × ((found : Option (List Named)) × subsections found custom.at (behind_its_title bytes custom) × (names ≡ unwrap_or found []))

-- An item of it has no reading, or it does not lie inside the bytes.
abbrev pub HasNoReading : List ℕ → Custom → Type 0
HasNoReading bytes custom = (length bytes < custom.at + custom.len) ⊎ ((o : ℕ) × subsections_stop custom.at (behind_its_title bytes custom) o)

abbrev pub AreNamesIn : List ℕ → Custom → List Named → Type 0
AreNamesIn bytes custom names = SpellsNames bytes custom names ⊎ (HasNoReading bytes custom × (names ≡ []))

-- The names are those of the first custom section `name`; there are none where there is no such section.
abbrev pub AreNamesOf : List ℕ → List Custom → List Named → Type 0
AreNamesOf bytes [] names = names ≡ []
AreNamesOf bytes (custom ∷ customs) names =
    ((custom.name ≡ codes "name") × AreNamesIn bytes custom names)
    ⊎ ((custom.name ≢ codes "name") × AreNamesOf bytes customs names)
