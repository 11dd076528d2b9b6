-- Numbers of steps by lines of files, as a map has them and as they are added up.
use Rattle.std.specs.Prelude.{◌≡◌, ◌<◌, ℕ, Bool, false, List, [], map, Option, Some, None, slice_get, unwrap_or}
use Rattle.std.specs.Map.{lookup}
use Rattle.std.specs.String.{string_bytes}
use Rattle.std.specs.declared.cmp.Ordering.{Ordering}
use Rattle.std.specs.BTreeMap.{BTreeMap}
use Rattle.dwarf_line.specs.declared.lines.Lines.{Lines}
use Rattle.debug_frames.specs.Files.{file_text}
use Rattle.line_coverage.specs.declared.spots.Spot.{Spot}
use Rattle.line_coverage.specs.declared.spots.LineCount.{LineCount}
use Rattle.line_coverage.specs.calls.Spots.{lines_sum}
use Rattle.cover_command.specs.declared.merging.NamedLine.{NamedLine}
use Rattle.cover_command.specs.contracts.merging.NamedLineOrd.TheImpl as file_line_ord
use Rattle.cover_command.specs.SourceLines.{SourceLine, is_line}

-- the order of the map
abbrev pub file_line_cmp : NamedLine → NamedLine → Ordering
file_line_cmp = (file_line_ord.ghosts).cmp

abbrev pub seen_line : NamedLine → SourceLine
seen_line l = record { file = string_bytes l.file; line = l.line }

-- a map as the lines that are told
abbrev pub seen_counts : List (NamedLine × ℕ) → List (SourceLine × ℕ)
seen_counts entries = map (λ e. (seen_line e.0, e.1)) entries

abbrev pub at_line : SourceLine → NamedLine → Bool
at_line line l = is_line line (seen_line l)

abbrev pub counted_on : BTreeMap NamedLine ℕ → SourceLine → ℕ
counted_on counts line = unwrap_or (lookup (at_line line) counts.entries) 0

-- no line has the number 0
abbrev pub HaveSteps : BTreeMap NamedLine ℕ → Type 0
HaveSteps counts = (line : SourceLine) (n : ℕ) → lookup (at_line line) counts.entries ≡ Some n → 0 < n

-- ---- lines of line programs

abbrev pub file_at : Option Lines → ℕ → List ℕ
file_at (Some lines) file = file_text lines (Some file)
file_at None file = []

abbrev pub spot_line : List Lines → Spot → SourceLine
spot_line tables s = record { file = file_at (slice_get tables s.table) s.file; line = s.line }

-- the step falls on this line of a file
abbrev pub spot_falls_on : List Lines → SourceLine → Option Spot → Bool
spot_falls_on tables line (Some s) = is_line line (spot_line tables s)
spot_falls_on tables line None = false

-- the steps of all lines of line programs that are this line of a file
abbrev pub merged : List Lines → List LineCount → SourceLine → ℕ
merged tables lines line = lines_sum (spot_falls_on tables line) lines
