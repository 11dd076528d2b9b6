-- The header of a line program (DWARF 4 section 6.2.4), whatever versions there are.
use Rattle.std.specs.Prelude.{ℕ, List, [], ◌∷◌, Option, Some, None, Ok, Err, nat_le, ◌&&◌, if◌then◌else◌}
use Rattle.wasm_bytes.specs.Place.{Place, Read}
use Rattle.wasm_bytes.specs.Reading.{◌>>=◌, ◌⊗◌, mapped}
use Rattle.dwarf_bytes.specs.Items.{counted_block_item, ended_item}
use Rattle.dwarf_bytes.specs.Format.{Format, made, text, text_or_end, done, fixed, read}
use Rattle.dwarf_line.specs.declared.lines.LineFile.{LineFile}
use Rattle.dwarf_line.specs.declared.header.Tables.{Tables}
use Rattle.dwarf_line.specs.declared.header.Header.{Header}
use Rattle.dwarf_line.specs.Parameters.{Parameters, parameters}
use Rattle.dwarf_line.specs.Opcodes.{file_behind}

-- what a version says of the header
pub record Layout : Type 0 where
  -- the bytes between the version and the header's length
  pub sizes : List ℕ
  -- the bytes behind the minimum instruction length
  pub operations : List ℕ
  -- the number of the first directory and of the first file
  pub first : ℕ
  pub tables : Place → Read Tables

abbrev pub header_of : ℕ → Parameters × Tables → Header
header_of first x = record { first = first; parameters = x.0; tables = x.1 }

-- in the block that the header's length opens
abbrev pub in_header : Layout → Place → Read Header
in_header l = mapped (header_of l.first) (read (parameters l.operations) ⊗ l.tables)

-- Bytes behind the tables are passed over.
unfoldable pub header_item : Layout → Place → Read Header
header_item l p = read (fixed l.sizes done) p >>= λ s. counted_block_item s.1 >>= λ b. in_header l b.0 >>= λ h. Ok (h.0, b.1)

-- Other versions have no reading.
abbrev pub header_or_none : Option Layout → Place → Read Header
header_or_none (Some l) p = header_item l p
header_or_none None p = Err p.at

-- ---- versions 2 to 4

-- An empty name ends the directories, and so the files.
abbrev pub file_of : List ℕ → Format (Option LineFile)
file_of [] = made None
file_of (b ∷ bs) = file_behind (b ∷ bs) (λ f. made (Some f))

abbrev pub file : Format (Option LineFile)
file = text file_of

abbrev pub tables_of : List (List ℕ) × List LineFile → Tables
tables_of x = record { directories = x.0; files = x.1 }

unfoldable pub tables_item : Place → Read Tables
tables_item = mapped tables_of (ended_item (read text_or_end) ⊗ ended_item (read file))

-- `maximum_operations_per_instruction` stands there from version 4 on, and is 1
abbrev pub operations : ℕ → List ℕ
operations version = if nat_le 4 version then 1 ∷ [] else []

abbrev pub old_layout : ℕ → Layout
old_layout version = record { sizes = []; operations = operations version; first = 1; tables = tables_item }

unfoldable pub layout : ℕ → Option Layout
layout version = if nat_le 2 version && nat_le version 4 then Some (old_layout version) else None
