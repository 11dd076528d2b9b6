-- The names of files and the places of rows, apart from the line programs in which they stand.
use Rattle.std.proofs.Common.{◌≡◌, ℕ, List, Option, Some, None, refl, ap}
use Rattle.std.specs.Prelude.{pos, option_map, codes}
use Rattle.dwarf_line.specs.declared.lines.Lines.{Lines}
use Rattle.dwarf_line.specs.declared.lines.LineFile.{LineFile}
use Rattle.dwarf_line.specs.Place.{Located}
use Rattle.debug_frames.specs.declared.programs.Program.{Program}
use Rattle.debug_frames.specs.declared.programs.Program.TheVariants.{Read, Unreadable}
use Rattle.debug_frames.specs.Files.{numbered, path_or_mark, file_text}
use Rattle.debug_frames.specs.Frames.{site, row_site, file_in}
use Rattle.debug_frames.specs.inner.Paths.{path_of, path_in, path_at, shown_or_mark, row_place, place_text}

shown_by : (lines : Lines) (o : Option LineFile) → shown_or_mark (option_map (path_of lines) o) ≡ path_or_mark lines o
shown_by lines None = refl
shown_by lines (Some file) = refl

file_shown : (lines : Lines) (number : ℕ) → shown_or_mark (path_in lines number) ≡ file_text lines (Some number)
unfolding file_text
file_shown lines number = shown_by lines (numbered lines.first lines.files number)

no_number : (lines : Lines) → codes "?" ≡ file_text lines None
unfolding file_text
no_number lines = refl

-- of the file of a number in a program, or where there is none
pub path_shown : (o : Option Program) (number : ℕ) → shown_or_mark (path_at o number) ≡ file_in o (Some number)
path_shown None number = refl
path_shown (Some (Read lines)) number = file_shown lines number
path_shown (Some Unreadable) number = refl

-- without a number
pub unnumbered : (o : Option Program) → codes "?" ≡ file_in o None
unnumbered None = refl
unnumbered (Some (Read lines)) = no_number lines
unnumbered (Some Unreadable) = refl

pub row_shown : (o : Option Located) → place_text (option_map row_place o) ≡ row_site o
row_shown None = refl
row_shown (Some x) = ap (λ (file : List ℕ). site file (pos x.row.line)) (file_shown x.lines x.row.file)
