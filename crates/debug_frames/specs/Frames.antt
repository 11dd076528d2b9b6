-- The lines that show a frame: one for each inlined subroutine that holds its address, the innermost first, and one for its function.
use Rattle.std.specs.Prelude.{ℕ, ◌+◌, ◌%◌, ◌^◌, ℤ, pos, List, [], ◌∷◌, ◌++◌, Option, Some, None, option_and_then, option_map, codes}
use Rattle.std.specs.Option.{option_or}
use Rattle.std.specs.Fmt.{decimal, signed_decimal}
use Rattle.pm_text.specs.Names.{plain}
use Rattle.wasm_syntax.specs.declared.parts.Body.{Body}
use Rattle.wasm_syntax.specs.declared.module.ModuleParts.{ModuleParts as Module}
use Rattle.wasm_syntax.specs.Valid.{body_of}
use Rattle.wasm_decode.specs.Names.{name_of as function_name}
use Rattle.dump_format.specs.declared.dump.Frame.{Frame}
use Rattle.dwarf_info.specs.declared.entry.UnitAnswer.{UnitAnswer}
use Rattle.dwarf_info.specs.Attributes.{valued, as_number}
use Rattle.dwarf_info.specs.Sections.{SectionBytes5}
use Rattle.dwarf_entries.specs.Names.{as_natural}
use Rattle.dwarf_entries.specs.Standing.{Standing}
use Rattle.dwarf_entries.specs.Origins.{name_of}
use Rattle.dwarf_scopes.specs.Scopes.{subprogram_at, inlined_at}
use Rattle.dwarf_line.specs.Place.{Located}
use Rattle.debug_frames.specs.declared.programs.Program.{Program}
use Rattle.debug_frames.specs.declared.programs.Program.TheVariants.{Read}
use Rattle.debug_frames.specs.Information.{SourceInformation}
use Rattle.debug_frames.specs.Programs.{named_by, program_there, located_at}
use Rattle.debug_frames.specs.Files.{file_text}

-- DWARF 4 and 5, 7.5.4
abbrev pub call_file : ℕ
call_file = 0x58

abbrev pub call_line : ℕ
call_line = 0x59

-- ---- addresses

abbrev pub body_start : Option Body → ℕ
body_start (Some body) = body.start
body_start None = 0

abbrev pub start_of : Module → ℕ → ℕ
start_of m f = body_start (body_of m f)

-- The code address of a frame: where the code entry of its function begins, and its offset. Code addresses have 32 bits (WebAssembly DWARF).
abbrev pub address_of : Module → Frame → ℕ
address_of m f = (start_of m f.function + f.offset) % 2 ^ 32

-- ---- places in source

unfoldable pub site : List ℕ → ℤ → List ℕ
site file line = codes " at " ++ file ++ codes ":" ++ signed_decimal line

-- the place of the row of the address; nothing where there is no row
abbrev pub row_site : Option Located → List ℕ
row_site None = []
row_site (Some x) = site (file_text x.lines (Some x.row.file)) (pos x.row.line)

abbrev pub file_in : Option Program → Option ℕ → List ℕ
file_in (Some (Read lines)) number = file_text lines number
file_in _ number = codes "?"

-- the line program of the unit of an entry
abbrev pub program_of_unit : SectionBytes5 → Standing → Option Program
program_of_unit sections s = option_map (program_there sections) (named_by s.unit.entries)

abbrev pub called_from : List ℕ → Option ℤ → List ℕ
called_from file None = []
called_from file (Some line) = site file line

abbrev pub call_file_text : SourceInformation → Standing → List ℕ
call_file_text x s = file_in (program_of_unit x.sections s) (valued as_natural call_file s.entry.attributes)

-- where an inlined subroutine is called (3.3.8.2); nothing where it says no line
abbrev pub call_site : SourceInformation → Standing → List ℕ
call_site x s = called_from (call_file_text x s) (valued as_number call_line s.entry.attributes)

-- The place of a line: the first one has that of the row, each next one that of the call of the inlined subroutine before it.
abbrev pub place_behind : SourceInformation → ℕ → Option Standing → List ℕ
place_behind x address None = row_site (located_at x.sections x.units address)
place_behind x address (Some s) = call_site x s

-- ---- names

abbrev pub name_or_mark : Option (List ℕ) → List ℕ
name_or_mark (Some name) = plain name
name_or_mark None = codes "?"

abbrev pub name_within : List UnitAnswer → Option Standing → Option (List ℕ)
name_within units subprogram = option_and_then (λ s. name_of units s.entry.attributes) subprogram

abbrev pub subprogram_there : SourceInformation → ℕ → Option Standing
subprogram_there x address = subprogram_at x.sections x.units address

-- the name of the subprogram at the address, else that of the `name` section
abbrev pub name_at : SourceInformation → ℕ → ℕ → Option (List ℕ)
name_at x address function = option_or (name_within x.units (subprogram_there x address)) (function_name x.names function)

-- ---- lines

abbrev pub index_text : ℕ → List ℕ
index_text i = codes "#" ++ decimal i ++ codes " "

unfoldable pub line : ℕ → List ℕ → List ℕ → List ℕ
line i text place = index_text i ++ text ++ place ++ codes "\n"

unfoldable pub inlined_text : SourceInformation → Standing → List ℕ
inlined_text x s = codes "inlined " ++ name_or_mark (name_of x.units s.entry.attributes)

unfoldable pub function_text : SourceInformation → ℕ → Frame → List ℕ
function_text x address f =
    name_or_mark (name_at x address f.function) ++ codes " (function " ++ decimal f.function ++ codes " offset " ++ decimal f.offset ++ codes ")"

-- the lines of inlined subroutines, and of the function behind them, where this entry is the one before
abbrev pub lines_behind : SourceInformation → ℕ → ℕ → Frame → Option Standing → List Standing → List ℕ
lines_behind x i address f before [] = line i (function_text x address f) (place_behind x address before)
lines_behind x i address f before (s ∷ outer) = line i (inlined_text x s) (place_behind x address before) ++ lines_behind x i address f (Some s) outer

abbrev pub lines_at : SourceInformation → ℕ → ℕ → Frame → List ℕ
lines_at x address i f = lines_behind x i address f None (inlined_at x.sections x.units address)

-- the lines of the frame of an index
unfoldable pub frame_text : SourceInformation → Module → ℕ → Frame → List ℕ
frame_text x m i f = lines_at x (address_of m f) i f
