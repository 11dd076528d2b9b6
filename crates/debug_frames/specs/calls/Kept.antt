-- The line programs that units name, each kept once.
use Rattle.std.specs.Prelude.{◌≡◌, ℕ, List, [], ◌∷◌, ◌++◌, fold, flat_map, Option, Some, None, is_some, nat_eq, if◌then◌else◌}
use Rattle.std.specs.Option.{option_or}
use Rattle.std.specs.Map.{lookup}
use Rattle.dwarf_info.specs.declared.entry.UnitAnswer.{UnitAnswer}
use Rattle.dwarf_info.specs.Sections.{SectionBytes5}
use Rattle.dwarf_line.specs.declared.lines.Lines.{Lines}
use Rattle.dwarf_line.specs.Place.{Located}
use Rattle.debug_frames.specs.declared.programs.Program.{Program}
use Rattle.debug_frames.specs.declared.programs.Program.TheVariants.{Read, Unreadable}
use Rattle.debug_frames.specs.Programs.{named, program_there, located_in}

-- ---- by their offsets

abbrev pub program_at : List (ℕ × Program) → ℕ → Option Program
program_at programs at = lookup (nat_eq at) programs

-- with the program at an offset, where there is none yet
abbrev pub with_program : SectionBytes5 → List (ℕ × Program) → Option ℕ → List (ℕ × Program)
with_program s programs None = programs
with_program s programs (Some at) = if is_some (program_at programs at) then programs else programs ++ (at, program_there s at) ∷ []

-- those that the units name, each where it is named first
unfoldable pub programs_of : SectionBytes5 → List UnitAnswer → List (ℕ × Program)
programs_of s units = fold (λ programs u. with_program s programs (named u)) [] units

-- what is kept at the offset that a unit names is what stands there
abbrev pub IsKept : SectionBytes5 → List UnitAnswer → Option ℕ → Type 0
IsKept s units None = Unit {0}
IsKept s units (Some at) = program_at (programs_of s units) at ≡ Some (program_there s at)

-- ---- those that could be read

abbrev pub read_in : Program → List Lines
read_in (Read lines) = lines ∷ []
read_in Unreadable = []

-- in the order in which units name them
abbrev pub readable : List (ℕ × Program) → List Lines
readable programs = flat_map (λ p. read_in p.1) programs

-- ---- rows

-- the row of an address: of the first program that has one
abbrev pub located_among : List (ℕ × Program) → ℕ → Option Located
located_among [] address = None
located_among (p ∷ programs) address = option_or (located_in p.1 address) (located_among programs address)
