-- Entries by the numbers of their unit and of their own.
use Rattle.std.specs.Prelude.{ℕ, zero, suc, List, [], ◌∷◌, Option, Some, None}
use Rattle.dwarf_info.specs.declared.entry.Entry.{Entry}
use Rattle.dwarf_info.specs.declared.entry.Unit.{Unit as UnitTree}
use Rattle.dwarf_info.specs.declared.entry.UnitAnswer.{UnitAnswer}
use Rattle.dwarf_info.specs.declared.entry.UnitAnswer.TheVariants.{Tree, Unreadable}
use Rattle.dwarf_entries.specs.Standing.{Standing, stands}

abbrev pub numbered : UnitTree → List Entry → ℕ → Option Standing
numbered u [] k = None
numbered u (e ∷ es) zero = Some (stands u e es)
numbered u (e ∷ es) (suc k) = numbered u es k

abbrev pub numbered_of : UnitAnswer → ℕ → Option Standing
numbered_of (Tree u) k = numbered u u.entries k
numbered_of (Unreadable section at) k = None

abbrev pub there : List UnitAnswer → ℕ → ℕ → Option Standing
there [] j k = None
there (u ∷ us) zero k = numbered_of u k
there (u ∷ us) (suc j) k = there us j k
