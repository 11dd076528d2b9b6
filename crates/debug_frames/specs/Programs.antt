-- The line programs that units name (DWARF 4 and 5, 3.1.1 and 6.2), and the row of an address among them.
use Rattle.std.specs.Prelude.{ℕ, List, [], ◌∷◌, Option, Some, None, option_map}
use Rattle.std.specs.Option.{option_or}
use Rattle.dwarf_info.specs.declared.entry.Entry.{Entry}
use Rattle.dwarf_info.specs.declared.entry.UnitAnswer.{UnitAnswer}
use Rattle.dwarf_info.specs.declared.entry.UnitAnswer.TheVariants as answers
use Rattle.dwarf_info.specs.Attributes.{valued, as_offset, stmt_list}
use Rattle.dwarf_info.specs.Sections.{SectionBytes5}
use Rattle.dwarf_line.specs.declared.lines.Lines.{Lines}
use Rattle.dwarf_line.specs.Program.{lines_at}
use Rattle.dwarf_line.specs.Place.{Located, place}
use Rattle.dwarf5_line.specs.Layout5.{texts_of, layout5}
use Rattle.debug_frames.specs.declared.programs.Program.{Program}
use Rattle.debug_frames.specs.declared.programs.Program.TheVariants.{Read, Unreadable}

abbrev pub program_of : Option Lines → Program
program_of (Some lines) = Read lines
program_of None = Unreadable

-- what stands at an offset of `.debug_line`
abbrev pub program_there : SectionBytes5 → ℕ → Program
program_there s at = program_of (lines_at (layout5 (texts_of s)) s.base.line at)

-- the offset that the root of a unit names
abbrev pub named_by : List Entry → Option ℕ
named_by [] = None
named_by (root ∷ more) = valued as_offset stmt_list root.attributes

abbrev pub named : UnitAnswer → Option ℕ
named (answers.Tree u) = named_by u.entries
named (answers.Unreadable section at) = None

-- ---- rows

abbrev pub located : Lines → ℕ → Option Located
located lines address = option_map (λ row. record { lines = lines; row = row }) (place address lines.sequences)

abbrev pub located_in : Program → ℕ → Option Located
located_in (Read lines) address = located lines address
located_in Unreadable address = None

-- in the line program at the offset that a unit names
abbrev pub located_there : SectionBytes5 → Option ℕ → ℕ → Option Located
located_there s None address = None
located_there s (Some at) address = located_in (program_there s at) address

-- the row of an address: of the first unit whose line program has one
abbrev pub located_at : SectionBytes5 → List UnitAnswer → ℕ → Option Located
located_at s [] address = None
located_at s (u ∷ units) address = option_or (located_there s (named u) address) (located_at s units address)
