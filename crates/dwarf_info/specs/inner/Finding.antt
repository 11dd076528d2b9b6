-- Places beside entries.
use Rattle.std.specs.Prelude.{◌≡◌, List, Option, Some, None}
use Rattle.dwarf_info.specs.declared.entry.Entry.{Entry}
use Rattle.dwarf_info.specs.declared.entry.UnitAnswer.{UnitAnswer}
use Rattle.dwarf_info.specs.declared.places.EntryPlace.{EntryPlace}
use Rattle.dwarf_info.specs.calls.EntryPlaces.{entry_there}

-- That entry stands at that place.
abbrev pub IsTied : List UnitAnswer → Option EntryPlace → Option Entry → Type 0
IsTied units (Some p) (Some e) = entry_there units p ≡ Some e
IsTied units (Some p) None = ⊥
IsTied units None (Some e) = ⊥
IsTied units None None = Unit {0}
