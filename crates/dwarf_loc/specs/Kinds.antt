-- The kinds of entries by their numbers: of location lists (DWARF 5, 7.7.3) and of range lists (7.25).
use Rattle.std.specs.Prelude.{ℕ, [], ◌∷◌, Option, slice_get}
use Rattle.dwarf_loc.specs.declared.kind.EntryKind.{EntryKind}
use Rattle.dwarf_loc.specs.declared.kind.EntryKind.TheVariants.{EndOfList, BaseAddressx, StartxEndx, StartxLength, OffsetPair, DefaultLocation, BaseAddress, StartEnd, StartLength}

-- from 0 on
abbrev pub location_kind : ℕ → Option EntryKind
location_kind code =
    slice_get (EndOfList ∷ BaseAddressx ∷ StartxEndx ∷ StartxLength ∷ OffsetPair ∷ DefaultLocation ∷ BaseAddress ∷ StartEnd ∷ StartLength ∷ []) code

abbrev pub range_kind : ℕ → Option EntryKind
range_kind code = slice_get (EndOfList ∷ BaseAddressx ∷ StartxEndx ∷ StartxLength ∷ OffsetPair ∷ BaseAddress ∷ StartEnd ∷ StartLength ∷ []) code
