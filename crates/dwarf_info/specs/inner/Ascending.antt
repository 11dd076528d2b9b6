-- Entries in the order of their offsets.
use Rattle.std.specs.Prelude.{ℕ, List, [], ◌∷◌, Bool, true, nat_le, ◌&&◌}
use Rattle.dwarf_info.specs.declared.places.PlacedEntry.{PlacedEntry}

-- The offsets ascend, and none is less than the first one.
abbrev pub ascends_from : ℕ → List PlacedEntry → Bool
ascends_from low [] = true
ascends_from low (e ∷ es) = nat_le low e.at && ascends_from e.at es
