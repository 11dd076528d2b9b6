-- What is kept of line programs, against what stands at their offsets.
use Rattle.std.specs.Prelude.{◌≡◌, ℕ, ℤ, pos, List, [], ◌∷◌, map, flat_map, Option, Some, None, option_map, Bool, true, false}
use Rattle.std.specs.Option.{option_or}
use Rattle.std.specs.List.{AllByRecursion}
use Rattle.dwarf_info.specs.Sections.{SectionBytes5}
use Rattle.dwarf_line.specs.declared.hull.Hull.{Hull}
use Rattle.dwarf_line.specs.calls.Hulls.{hull_of}
use Rattle.debug_frames.specs.declared.programs.Program.{Program}
use Rattle.debug_frames.specs.declared.programs.Program.TheVariants.{Read, Unreadable}
use Rattle.debug_frames.specs.declared.rows.RowPlace.{RowPlace}
use Rattle.debug_frames.specs.declared.stored.Stored.{Stored}
use Rattle.debug_frames.specs.declared.stored.Stored.TheVariants.{Whole, Bounded}
use Rattle.debug_frames.specs.declared.stored.Stored.TheVariants as stored
use Rattle.debug_frames.specs.Programs.{program_there, located_in}
use Rattle.debug_frames.specs.inner.Paths.{row_place}
use Rattle.debug_frames.specs.inner.Placing.{held_by}

-- the bounds of a program that can be read
abbrev pub hull_in : Program → Option Hull
hull_in (Read lines) = Some (hull_of lines)
hull_in Unreadable = None

-- What is kept of a program is all of it, or its bounds.
abbrev pub Serves : Program → Stored → Type 0
Serves program (Whole lines) = program ≡ Read lines
Serves program stored.Unreadable = program ≡ Unreadable
Serves program (Bounded hull) = hull_in program ≡ Some hull

-- It is kept of what stands at the offset beside it.
abbrev pub IsStored : SectionBytes5 → ℕ × Stored → Type 0
IsStored s x = Serves (program_there s x.0) x.1

abbrev pub AreStored : SectionBytes5 → List (ℕ × Stored) → Type 0
AreStored s xs = AllByRecursion (IsStored s) xs

-- what stands at the offset
abbrev pub seen_one : SectionBytes5 → ℕ × Stored → ℕ × Program
seen_one s x = (x.0, program_there s x.0)

abbrev pub seen : SectionBytes5 → List (ℕ × Stored) → List (ℕ × Program)
seen s xs = map (seen_one s) xs

-- What is found of an offset is kept of what stands there, or nothing is seen at it.
abbrev pub Shows : Program → Option Program → Option Stored → Type 0
Shows there program (Some x) = (program ≡ Some there) × Serves there x
Shows there program None = program ≡ None

abbrev pub is_read : Program → Bool
is_read (Read lines) = true
is_read Unreadable = false

abbrev pub can_be_read : Stored → Bool
can_be_read (Whole lines) = true
can_be_read stored.Unreadable = false
can_be_read (Bounded hull) = true

-- ---- addresses

-- from where to where it may hold addresses
abbrev pub claims_of : Stored → List (ℕ × ℤ)
claims_of (Whole lines) = flat_map held_by lines.sequences
claims_of stored.Unreadable = []
claims_of (Bounded hull) = (hull.first, pos hull.«end») ∷ []

abbrev pub claims_in : ℕ × Stored → List (ℕ × ℤ)
claims_in x = claims_of x.1

-- the place of the row in the first program that has one
abbrev pub places_among : SectionBytes5 → List (ℕ × Stored) → ℕ → Option RowPlace
places_among s [] address = None
places_among s (x ∷ xs) address = option_or (option_map row_place (located_in (program_there s x.0) address)) (places_among s xs address)
