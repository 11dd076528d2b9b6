-- Names of source files, and places of rows, apart from the line programs in which they stand.
use Rattle.std.specs.Prelude.{ℕ, pos, List, [], Option, Some, None, option_map, codes}
use Rattle.pm_text.specs.Names.{plain}
use Rattle.dwarf_line.specs.declared.lines.Lines.{Lines}
use Rattle.dwarf_line.specs.declared.lines.LineFile.{LineFile}
use Rattle.dwarf_line.specs.Place.{Located}
use Rattle.debug_frames.specs.declared.files.Path.{Path}
use Rattle.debug_frames.specs.declared.rows.RowPlace.{RowPlace}
use Rattle.debug_frames.specs.declared.programs.Program.{Program}
use Rattle.debug_frames.specs.declared.programs.Program.TheVariants.{Read, Unreadable}
use Rattle.debug_frames.specs.Files.{numbered, directory_before, in_directory}
use Rattle.debug_frames.specs.Frames.{site}

abbrev pub path_of : Lines → LineFile → Path
path_of lines file = record { directory = directory_before lines file; name = file.name }

-- of the file of a number, where there is one
abbrev pub path_in : Lines → ℕ → Option Path
path_in lines number = option_map (path_of lines) (numbered lines.first lines.files number)

abbrev pub path_in_program : Program → ℕ → Option Path
path_in_program (Read lines) number = path_in lines number
path_in_program Unreadable number = None

abbrev pub path_at : Option Program → ℕ → Option Path
path_at None number = None
path_at (Some program) number = path_in_program program number

abbrev pub shown : Path → List ℕ
shown path = plain (in_directory path.name path.directory)

abbrev pub shown_or_mark : Option Path → List ℕ
shown_or_mark (Some path) = shown path
shown_or_mark None = codes "?"

-- ---- places of rows

abbrev pub row_place : Located → RowPlace
row_place x = record { path = path_in x.lines x.row.file; line = x.row.line }

abbrev pub place_text : Option RowPlace → List ℕ
place_text None = []
place_text (Some x) = site (shown_or_mark x.path) (pos x.line)
