-- The bytes that spell a line program (DWARF 4 section 6.2.4), whatever versions there are.
use Rattle.std.specs.Prelude.{ℕ, Option, Some, None}
use Rattle.wasm_bytes.specs.calls.Spelling.{Spellings, ◌&◌, pair, leads, image, items, any}
use Rattle.dwarf_bytes.specs.calls.Spelled as spelling
use Rattle.dwarf_bytes.specs.calls.Spelled.{never, number, counted, unit_sized}
use Rattle.dwarf_bytes.specs.Format.{text_or_end, done, fixed, spelled}
use Rattle.dwarf_line.specs.declared.lines.Lines.{Lines}
use Rattle.dwarf_line.specs.declared.header.Tables.{Tables}
use Rattle.dwarf_line.specs.declared.header.Header.{Header}
use Rattle.dwarf_line.specs.Parameters.{parameters}
use Rattle.dwarf_line.specs.Opcodes.{opcode}
use Rattle.dwarf_line.specs.Header.{Layout, header_of, file, layout}
use Rattle.dwarf_line.specs.Program.{said}

-- a header of that layout, whose tables are spelled so, and bytes that are passed over
abbrev pub header : (Tables → Spellings) → Layout → Header → Spellings
header names l h = spelled (fixed l.sizes done) tt & counted (image (header_of l.first) (pair (spelled (parameters l.operations)) names) h & any)

-- opcodes, and what they say behind a header
abbrev pub opcodes : Header → Lines → Spellings
opcodes h = image (said h) (items (spelled (opcode h.parameters)))

-- a header, and opcodes up to the end; nothing where there is no layout
abbrev pub program : (Tables → Spellings) → Option Layout → Lines → Spellings
program names (Some l) = leads (header names l) opcodes
program names None = never

-- a version, and a program of it
abbrev pub versioned : (ℕ → Tables → Spellings) → (ℕ → Option Layout) → Lines → Spellings
versioned names versions = leads (number 2) (λ v. program (names v) (versions v))

abbrev pub line_program : (ℕ → Tables → Spellings) → (ℕ → Option Layout) → Lines → Spellings
line_program names versions lines = unit_sized (versioned names versions lines)

-- ---- versions 2 to 4

abbrev pub tables : Tables → Spellings
tables t = spelling.ended (spelled text_or_end) t.directories & spelling.ended (spelled file) t.files

abbrev pub lines : Lines → Spellings
lines = line_program (λ version. tables) layout
