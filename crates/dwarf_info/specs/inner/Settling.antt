-- References that meet an entry, by a test of offsets.
use Rattle.std.specs.Prelude.{ℕ, List, Option, Some, None, Bool, true, map, option_map, find, ◌==◌, if◌then◌else◌}
use Rattle.std.specs.List.{list_any}
use Rattle.std.specs.Option.{is_some}
use Rattle.dwarf_info.specs.declared.places.EntryPlace.{EntryPlace}
use Rattle.dwarf_info.specs.declared.places.PlacedEntry.{PlacedEntry}
use Rattle.dwarf_info.specs.declared.entry.AttrValue.{AttrValue}
use Rattle.dwarf_info.specs.declared.entry.AttrValue.TheVariants.{Reference, Other}
use Rattle.dwarf_info.specs.declared.entry.Attribute.{Attribute}
use Rattle.dwarf_info.specs.declared.entry.Entry.{Entry}
use Rattle.dwarf_info.specs.declared.entry.Unit.{Unit as UnitTree}
use Rattle.dwarf_info.specs.declared.entry.UnitAnswer.{UnitAnswer}
use Rattle.dwarf_info.specs.declared.entry.UnitAnswer.TheVariants.{Tree, Unreadable}

abbrev pub place_of : PlacedEntry → EntryPlace
place_of e = record { unit = e.unit; entry = e.entry }

-- the place of the first entry with an offset
abbrev pub placed : List PlacedEntry → ℕ → Option EntryPlace
placed entries at = option_map place_of (find (λ e. e.at == at) entries)

-- the place of an entry, if it has that offset
abbrev pub placed_by : ℕ → Option PlacedEntry → Option EntryPlace
placed_by at (Some e) = if e.at == at then Some (place_of e) else None
placed_by at None = None

-- An entry stands there.
abbrev pub meets : (ℕ → Option EntryPlace) → ℕ → Bool
meets places at = is_some (places at)

abbrev pub settled_by : (ℕ → Bool) → AttrValue → AttrValue
settled_by meets (Reference at) = if meets at then Reference at else Other
settled_by meets v = v

-- It stays as it is: it is no reference, or one that meets an entry.
abbrev pub is_met : (ℕ → Bool) → AttrValue → Bool
is_met meets (Reference at) = meets at
is_met meets v = true

abbrev pub attribute_by : (ℕ → Bool) → Attribute → Attribute
attribute_by meets a = record { name = a.name; value = settled_by meets a.value }

abbrev pub entry_by : (ℕ → Bool) → Entry → Entry
entry_by meets e = record e { attributes = map (attribute_by meets) e.attributes }

abbrev pub unit_by : (ℕ → Bool) → UnitTree → UnitTree
unit_by meets u = record u { entries = map (entry_by meets) u.entries }

abbrev pub answer_by : (ℕ → Bool) → UnitAnswer → UnitAnswer
answer_by meets (Tree u) = Tree (unit_by meets u)
answer_by meets (Unreadable section at) = Unreadable section at

-- One of the entries stands there.
abbrev pub any_at : ℕ → List Entry → Bool
any_at at entries = list_any (λ o. o == at) (map (λ e. e.at) entries)
