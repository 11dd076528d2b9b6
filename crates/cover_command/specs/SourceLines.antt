-- The source lines on which steps fall, by the texts that name their files (DWARF 4 and 5, 6.2).
use Rattle.std.specs.Prelude.{ℕ, ◌==◌, ◌&&◌, Bool, false, List, Option, Some, None, bytes_eq, option_and_then}
use Rattle.std.specs.Option.{option_map}
use Rattle.std.specs.declared.cmp.Ordering.{Ordering}
use Rattle.std.specs.Ordering.{nat_cmp, ordering_then}
use Rattle.std.specs.Cmp.Lexicographic.{slice_cmp}
use Rattle.wasm_syntax.specs.declared.module.ModuleParts.{ModuleParts as Module}
use Rattle.machine_steps.specs.Places.{Place}
use Rattle.dwarf_line.specs.Place.{Located}
use Rattle.debug_frames.specs.Files.{file_text}
use Rattle.debug_frames.specs.Information.{SourceInformation}
use Rattle.debug_frames.specs.Programs.{located_at}
use Rattle.line_coverage.specs.Covers.{address_of}

-- a line of a file, by the text that names the file
pub record SourceLine : Type 0 where
  pub file : List ℕ
  pub line : ℕ

-- by the bytes of the file's text, and then by the number of the line
abbrev pub line_cmp : SourceLine → SourceLine → Ordering
line_cmp a b = ordering_then (slice_cmp nat_cmp a.file b.file) (nat_cmp a.line b.line)

abbrev pub is_line : SourceLine → SourceLine → Bool
is_line a b = bytes_eq a.file b.file && (a.line == b.line)

-- the line of a row
abbrev pub line_of : Located → SourceLine
line_of x = record { file = file_text x.lines (Some x.row.file); line = x.row.line }

-- Where a step falls that is made at a place: on the line of the row of its code address, by the first unit whose line program has one.
-- With no frame, and where no line program has a row, it falls on none.
abbrev pub source_line : SourceInformation → Module → Option Place → Option SourceLine
source_line x m at = option_map line_of (option_and_then (λ p. located_at x.sections x.units (address_of m p)) at)

abbrev pub falls_on : SourceLine → Option SourceLine → Bool
falls_on line (Some other) = is_line line other
falls_on line None = false
