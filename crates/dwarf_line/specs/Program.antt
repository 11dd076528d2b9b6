-- Reading a line program (DWARF 4 section 6.2.4), whatever versions there are.
use Rattle.std.specs.Prelude.{ℕ, List, Option, Ok}
use Rattle.wasm_bytes.specs.Place.{Place, Read}
use Rattle.wasm_bytes.specs.Reading.{◌>>=◌, ◌▷◌, mapped, closed, to_end_item}
use Rattle.dwarf_bytes.specs.Items.{number_item, unit_block_item, read_at}
use Rattle.dwarf_bytes.specs.Format.{read}
use Rattle.dwarf_line.specs.declared.lines.Lines.{Lines}
use Rattle.dwarf_line.specs.declared.header.Header.{Header}
use Rattle.dwarf_line.specs.declared.opcodes.Opcode.{Opcode}
use Rattle.dwarf_line.specs.declared.matrix.Matrix.{Matrix}
use Rattle.dwarf_line.specs.Opcodes.{opcode}
use Rattle.dwarf_line.specs.Rows.{matrix}
use Rattle.dwarf_line.specs.Header.{Layout, header_or_none}

abbrev pub lines_of : Header → Matrix → Lines
lines_of h m = record { first = h.first; directories = h.tables.directories; files = m.files; sequences = m.sequences }

-- what a header and the opcodes behind it say
abbrev pub said : Header → List Opcode → Lines
said h opcodes = lines_of h (matrix h.parameters h.tables.files opcodes)

-- the opcodes up to the end of the unit
unfoldable pub opcodes_item : Header → Place → Read Lines
opcodes_item h = mapped (said h) (to_end_item (read (opcode h.parameters)))

-- a version, its header, and the opcodes
unfoldable pub program_item : (ℕ → Option Layout) → Place → Read Lines
program_item versions = number_item 2 ▷ λ v. header_or_none (versions v) ▷ opcodes_item

-- a program in the block that `unit_length` opens, up to its end
unfoldable pub lines_item : (ℕ → Option Layout) → Place → Read Lines
lines_item versions p = unit_block_item p >>= λ b. closed (program_item versions) b.0 >>= λ x. Ok (x.0, b.1)

-- what the program at an offset of `.debug_line` says, if it has a reading
unfoldable pub lines_at : (ℕ → Option Layout) → List ℕ → ℕ → Option Lines
lines_at versions section at = read_at (lines_item versions) section at
