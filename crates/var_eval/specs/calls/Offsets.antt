-- Whether each entry is the one at its offset.
use Rattle.std.specs.Prelude.{◌≡◌, ℕ, ◌+◌, nat_lt, List, [], ◌∷◌, Option, Some, None, option_and_then, if◌then◌else◌}
use Rattle.dwarf_info.specs.declared.entry.Entry.{Entry}
use Rattle.dwarf_info.specs.declared.entry.Unit.{Unit as UnitTree}
use Rattle.dwarf_info.specs.declared.entry.UnitAnswer.{UnitAnswer}
use Rattle.dwarf_info.specs.declared.entry.UnitAnswer.TheVariants.{Tree, Unreadable}
use Rattle.dwarf_entries.specs.Standing.{standing_at, stands}

-- Offsets ascend from one on: the one behind the last, or that one does not.
abbrev pub rises_in : ℕ → List Entry → Option ℕ
rises_in n [] = Some n
rises_in n (e ∷ es) = if nat_lt e.at n then None else rises_in (e.at + 1) es

abbrev pub rises_of : ℕ → UnitAnswer → Option ℕ
rises_of n (Tree u) = rises_in n u.entries
rises_of n (Unreadable section at) = Some n

abbrev pub rises : ℕ → List UnitAnswer → Option ℕ
rises n [] = Some n
rises n (u ∷ us) = option_and_then (λ m. rises m us) (rises_of n u)

-- The entry at its offset is this one, of that unit.
abbrev pub IsAt : List UnitAnswer → UnitTree → Entry → Type 0
IsAt units u e = (es : List Entry) × (standing_at units e.at ≡ Some (stands u e es))

abbrev pub AreAt : List UnitAnswer → UnitTree → List Entry → Type 0
AreAt units u [] = Unit {0}
AreAt units u (e ∷ es) = IsAt units u e × AreAt units u es

abbrev pub AreAtOf : List UnitAnswer → UnitAnswer → Type 0
AreAtOf units (Tree u) = AreAt units u u.entries
AreAtOf units (Unreadable section at) = Unit {0}

-- the entries of each of these units
abbrev pub AllAreAt : List UnitAnswer → List UnitAnswer → Type 0
AllAreAt units [] = Unit {0}
AllAreAt units (u ∷ us) = AreAtOf units u × AllAreAt units us
