-- Lists of version 4 (DWARF 4, 2.6.2 and 2.17.3): pairs of numbers of 4 bytes. In location lists an expression stands behind a pair.
use Rattle.std.specs.Prelude.{ℕ, List, Option, Some, None, option_map, is_some, Bool, ◌==◌, ◌&&◌, if◌then◌else◌}
use Rattle.wasm_bytes.specs.Place.{Place, Read}
use Rattle.wasm_bytes.specs.Reading.{◌⊗◌, ◌▷◌, mapped, done_item}
use Rattle.dwarf_bytes.specs.Items.{number_item, ended_item, read_at}
use Rattle.dwarf_loc.specs.declared.contents.Span.{Span}
use Rattle.dwarf_loc.specs.declared.entry.ListEntry.{ListEntry}
use Rattle.dwarf_loc.specs.declared.entry.ListEntry.TheVariants.{Base, FromBase}
use Rattle.dwarf_loc.specs.Contents.{span_item, nothing_item}
use Rattle.dwarf_loc.specs.Lists.{chosen}

-- FFFFFFFF says that the second number of the pair is a base
abbrev pub is_selection : ℕ → Bool
is_selection n = n == 0xffffffff

-- 0 0 ends the list
abbrev pub behind_pair : {A : Type 0} → (Place → Read A) → ℕ × ℕ → Place → Read (Option (ListEntry A))
behind_pair what x =
    if x.0 == 0 && x.1 == 0 then done_item None
    else (if is_selection x.0 then done_item (Some (Base x.1))
    else mapped (λ y. Some (FromBase x.0 x.1 y)) what)

unfoldable pub entry4_item : {A : Type 0} → (Place → Read A) → Place → Read (Option (ListEntry A))
entry4_item what = (number_item 4 ⊗ number_item 4) ▷ behind_pair what

unfoldable pub list4_item : {A : Type 0} → (Place → Read A) → Place → Read (List (ListEntry A))
list4_item what = ended_item (entry4_item what)

-- an expression with its length in front
unfoldable pub expression4_item : Place → Read Span
expression4_item = number_item 2 ▷ span_item

-- A list has a reading only as a whole.
unfoldable pub location4 : List ℕ → ℕ → ℕ → ℕ → Option (Option Span)
location4 section at start address = option_map (chosen start address) (read_at (list4_item expression4_item) section at)

unfoldable pub range4 : List ℕ → ℕ → ℕ → ℕ → Option Bool
range4 section at start address = option_map (λ entries. is_some (chosen start address entries)) (read_at (list4_item nothing_item) section at)
