-- Entries of a list, one behind the other.
use Rattle.std.specs.Prelude.{◌≡◌, ◌<◌, ◌≤◌, ℕ, List, [], ◌∷◌, length, Option, Some, Ok}
use Rattle.wasm_bytes.specs.Place.{Place, Read}
use Rattle.dwarf_loc.specs.declared.entry.ListEntry.{ListEntry}
use Rattle.dwarf_loc.specs.calls.Said.{base_behind}
use Rattle.dwarf_scopes.specs.declared.known.ListPlace.{ListPlace}
use Rattle.dwarf_scopes.specs.declared.known.PassedEntry.{PassedEntry}
use Rattle.dwarf_scopes.specs.calls.Knowing.{Sectioned, Entered}

-- An entry stands at an offset of a section, and another offset is the one behind it.
pub record IsEntry {A : Type 0} (section : List ℕ) (item : Place → Read (Option (ListEntry A))) (at : ℕ) (entry : ListEntry A) (next : ℕ) : Type 0 where
  pub inside : at ≤ length section
  pub moves : at < next
  pub reads : item (record { block = section; at = at }) ≡ Ok (Some entry, record { block = section; at = next })

-- the place behind an entry
abbrev pub place_behind : {A : Type 0} → ListPlace → ListEntry A → ℕ → ListPlace
place_behind p entry next = record { way = p.way; base = base_behind p.base entry; at = next }

-- Each entry stands behind the one before it, and from one place they lead to another.
abbrev pub Leads : {A : Type 0} → Sectioned → Entered A → List (PassedEntry A) → ListPlace → ListPlace → Type 0
Leads section item [] from to = from ≡ to
Leads section item (x ∷ xs) from to =
    (next : ℕ) × (x.place ≡ from) × IsEntry (section from.way) (item from.way) from.at x.entry next × Leads section item xs (place_behind from x.entry next) to
