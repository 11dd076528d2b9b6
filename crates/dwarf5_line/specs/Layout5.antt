-- Line programs of versions 2 to 5 (DWARF 5 section 6.2.4).
use Rattle.std.specs.Prelude.{◌≡◌, ℕ, List, [], ◌∷◌, length, Bool, true, false, Option, Some, ◌==◌, if◌then◌else◌}
use Rattle.wasm_bytes.specs.calls.Spelling.{Spellings, ◌&◌, pair, leads, image, items, u64}
use Rattle.dwarf_bytes.specs.calls.Spelled.{each, number}
use Rattle.dwarf_bytes.specs.Format.{spelled}
use Rattle.dwarf_info.specs.Sections.{SectionBytes5}
use Rattle.dwarf_line.specs.declared.lines.LineFile.{LineFile}
use Rattle.dwarf_line.specs.declared.lines.Lines.{Lines}
use Rattle.dwarf_line.specs.declared.header.Tables.{Tables}
use Rattle.dwarf_line.specs.calls.Grammar as old
use Rattle.dwarf_line.specs.calls.Grammar.{line_program}
use Rattle.dwarf_line.specs.Header.{Layout, layout}
use Rattle.dwarf5_line.specs.declared.entries.Pair.{Pair}
use Rattle.dwarf5_line.specs.Entries as entries
use Rattle.dwarf5_line.specs.Entries.{Texts, Described, content, describes, file_of, may_count, tables_of, tables_item}

-- the sections that names of directories and files may stand in
abbrev pub texts_of : SectionBytes5 → Texts
texts_of s = record { str = s.base.str; line_str = s.line_str }

-- Behind the version stand the size of an address, and that of a segment selector. Directories and files count from 0.
abbrev pub new_layout : Texts → Layout
new_layout texts = record { sizes = 4 ∷ 0 ∷ []; operations = 1 ∷ []; first = 0; tables = tables_item texts }

unfoldable pub layout5 : Texts → ℕ → Option Layout
layout5 texts version = if version == 5 then Some (new_layout texts) else layout version

-- ---- the bytes that spell them

abbrev pub described : Texts → Pair → Described → Spellings
described texts p = image (describes p.kind) (spelled (content texts p.form))

abbrev pub entry : Texts → List Pair → LineFile → Spellings
entry texts pairs = image file_of (each (described texts) pairs)

-- a count, and as many entries
abbrev pub counted_entries : Texts → List Pair → List LineFile → Spellings
counted_entries texts pairs xs at bytes = (may_count pairs (length xs) ≡ true) × (u64 (length xs) & items (entry texts pairs) xs) at bytes

-- a count of pairs in one byte, the pairs, and the entries
abbrev pub pairs : List Pair → Spellings
pairs ps = number 1 (length ps) & items (spelled entries.pair) ps

abbrev pub entry_table : Texts → List LineFile → Spellings
entry_table texts = leads pairs (counted_entries texts)

-- directories, and then files
abbrev pub tables5 : Texts → Tables → Spellings
tables5 texts = image tables_of (pair (entry_table texts) (entry_table texts))

-- the directories and files of a version, which is 5 or is not
abbrev pub tables_if : Texts → Bool → Tables → Spellings
tables_if texts true = tables5 texts
tables_if texts false = old.tables

abbrev pub tables : Texts → ℕ → Tables → Spellings
tables texts version = tables_if texts (version == 5)

abbrev pub lines5 : Texts → Lines → Spellings
lines5 texts = line_program (tables texts) (layout5 texts)
