-- Which entries of its unit stand in an entry, and positions among them.
use Rattle.std.specs.Prelude.{◌≡◌, ℕ, List, take, drop, slice_get}
use Rattle.std.specs.List.{filter_map}
use Rattle.dwarf_info.specs.declared.entry.Entry.{Entry}
use Rattle.dwarf_entries.specs.Standing.{Standing, entries_inside}
use Rattle.dwarf_types.specs.declared.entry_range.EntryRange.{EntryRange}

abbrev pub in_range : EntryRange → List Entry → List Entry
in_range r es = take r.count (drop r.first es)

abbrev pub AreInside : Standing → EntryRange → Type 0
AreInside s r = in_range r s.unit.entries ≡ entries_inside s

-- those at these positions, where there are any
abbrev pub picked : List ℕ → List Standing → List Standing
picked positions xs = filter_map (slice_get xs) positions
