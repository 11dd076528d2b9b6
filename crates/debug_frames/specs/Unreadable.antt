-- The lines on what could not be read.
use Rattle.std.specs.Prelude.{ℕ, List, [], ◌++◌, flat_map, Option, Some, None, codes}
use Rattle.std.specs.Fmt.{decimal}
use Rattle.dwarf_info.specs.declared.entry.UnitAnswer.{UnitAnswer}
use Rattle.dwarf_info.specs.declared.entry.UnitAnswer.TheVariants as answers
use Rattle.dwarf_info.specs.Sections.{SectionBytes5}
use Rattle.debug_frames.specs.Information.{SourceInformation}
use Rattle.debug_frames.specs.declared.programs.Program.{Program}
use Rattle.debug_frames.specs.declared.programs.Program.TheVariants.{Read, Unreadable}
use Rattle.debug_frames.specs.Programs.{named, program_there}

unfoldable pub unreadable : List ℕ → ℕ → List ℕ
unreadable section at = codes "unreadable " ++ section ++ codes " at " ++ decimal at ++ codes "\n"

abbrev pub program_line : ℕ → Program → List ℕ
program_line at (Read lines) = []
program_line at Unreadable = unreadable (codes ".debug_line") at

abbrev pub named_line : SectionBytes5 → Option ℕ → List ℕ
named_line s None = []
named_line s (Some at) = program_line at (program_there s at)

-- of a unit, or of the line program that it names
abbrev pub unit_line : SectionBytes5 → UnitAnswer → List ℕ
unit_line s (answers.Unreadable section at) = unreadable section at
unit_line s (answers.Tree u) = named_line s (named (answers.Tree u))

-- for each unit, in the order of the section
unfoldable pub unreadable_text : SourceInformation → List ℕ
unreadable_text x = flat_map (unit_line x.sections) x.units
