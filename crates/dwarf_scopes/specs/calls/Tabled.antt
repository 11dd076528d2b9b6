-- Subprograms by the places where they stand.
use Rattle.std.specs.Prelude.{◌≡◌, ℕ, ◌+◌, List, [], ◌∷◌, ◌++◌, map, drop, slice_get, Option, Some, None, if◌then◌else◌}
use Rattle.dwarf_info.specs.declared.entry.Entry.{Entry}
use Rattle.dwarf_info.specs.declared.entry.Unit.{Unit as UnitTree}
use Rattle.dwarf_info.specs.declared.entry.UnitAnswer.{UnitAnswer}
use Rattle.dwarf_info.specs.declared.entry.UnitAnswer.TheVariants.{Tree, Unreadable}
use Rattle.dwarf_entries.specs.Standing.{Standing, stands}
use Rattle.dwarf_scopes.specs.declared.table.EntryPlace.{EntryPlace}
use Rattle.dwarf_scopes.specs.declared.table.SubprogramTable.{SubprogramTable}
use Rattle.dwarf_scopes.specs.calls.Levels.{AreLeveled}
use Rattle.dwarf_scopes.specs.inner.Picks.{is_kept, kept}
use Rattle.dwarf_scopes.specs.inner.Holding.{AreHolders}

-- the first of these entries
abbrev pub first_standing : UnitTree → List Entry → Option Standing
first_standing u [] = None
first_standing u (e ∷ es) = Some (stands u e es)

abbrev pub placed_in : Option UnitAnswer → ℕ → Option Standing
placed_in (Some (Tree u)) number = first_standing u (drop number u.entries)
placed_in (Some (Unreadable section at)) number = None
placed_in None number = None

-- the entry at a place
abbrev pub placed : List UnitAnswer → EntryPlace → Option Standing
placed units p = placed_in (slice_get units p.unit) p.entry

-- Each of these stands at its place.
abbrev pub AreAt : List UnitAnswer → List EntryPlace → List Standing → Type 0
AreAt units places xs = map (placed units) places ≡ map Some xs

-- the places of the subprograms that are not removed, among entries of a unit from one of this number on
abbrev pub places_in : UnitTree → ℕ → ℕ → List Entry → List EntryPlace
places_in u unit number [] = []
places_in u unit number (e ∷ es) =
    if is_kept (stands u e es) then (record { unit = unit; entry = number } ∷ places_in u unit (number + 1) es) else places_in u unit (number + 1) es

abbrev pub places_of : ℕ → UnitAnswer → List EntryPlace
places_of unit (Tree u) = places_in u unit 0 u.entries
places_of unit (Unreadable section at) = []

-- of all units from one of this number on
abbrev pub places_from : ℕ → List UnitAnswer → List EntryPlace
places_from unit [] = []
places_from unit (u ∷ us) = places_of unit u ++ places_from (unit + 1) us

-- A table of the subprograms of these units.
abbrev pub IsTable : List UnitAnswer → SubprogramTable → Type 0
IsTable units t = (t.places ≡ places_from 0 units) × AreHolders (kept units) t.holders × AreLeveled t.levels units
