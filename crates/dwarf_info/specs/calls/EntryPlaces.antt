-- Where the entry at an offset stands in a list of units. Where several have the offset, the first one counts.
use Rattle.std.specs.Prelude.{◌≡◌, ◌==◌, ◌+◌, ℕ, List, [], ◌∷◌, slice_get, find, flat_map, Option, Some, None, if◌then◌else◌}
use Rattle.std.specs.Option.{option_or}
use Rattle.dwarf_info.specs.declared.entry.Entry.{Entry}
use Rattle.dwarf_info.specs.declared.entry.Unit.{Unit as UnitTree}
use Rattle.dwarf_info.specs.declared.entry.UnitAnswer.{UnitAnswer}
use Rattle.dwarf_info.specs.declared.entry.UnitAnswer.TheVariants.{Tree}
use Rattle.dwarf_info.specs.declared.places.EntryPlace.{EntryPlace}
use Rattle.dwarf_info.specs.Units.{entries_in}

-- An entry with that offset stands there.
abbrev pub IsEntryAt : List UnitAnswer → ℕ → EntryPlace → Type 0
IsEntryAt units at p = (u : UnitTree) × (e : Entry) × (slice_get units p.unit ≡ Some (Tree u)) × (slice_get u.entries p.entry ≡ Some e) × (e.at ≡ at)

-- the first of all entries that has an offset
abbrev pub first_at : ℕ → List UnitAnswer → Option Entry
first_at at units = find (λ e. e.at == at) (flat_map entries_in units)

-- the entry of a unit, by its number
abbrev pub entry_of : Option UnitAnswer → ℕ → Option Entry
entry_of (Some u) number = slice_get (entries_in u) number
entry_of None number = None

-- the entry at a place
abbrev pub entry_there : List UnitAnswer → EntryPlace → Option Entry
entry_there units p = entry_of (slice_get units p.unit) p.entry

-- ---- the place itself

abbrev pub place : ℕ → ℕ → EntryPlace
place unit entry = record { unit = unit; entry = entry }

-- the place of the first entry with an offset, among those of a unit from a number on
abbrev pub place_in : ℕ → ℕ → List Entry → ℕ → Option EntryPlace
place_in unit number [] at = None
place_in unit number (e ∷ es) at = option_or (if e.at == at then Some (place unit number) else None) (place_in unit (number + 1) es at)

-- the same among the units from a number on
abbrev pub place_among : ℕ → List UnitAnswer → ℕ → Option EntryPlace
place_among unit [] at = None
place_among unit (u ∷ us) at = option_or (place_in unit 0 (entries_in u) at) (place_among (unit + 1) us at)
