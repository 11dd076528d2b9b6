-- A line program is read exactly as it is spelled.
use Rattle.std.proofs.Common.{◌≡◌, ℕ, List, [], ◌∷◌, length, Option, Some, None, Ok, leb, refl, ap, subst, inl, inr, arith, length-append}
use Rattle.std.specs.Prelude.{◌&&◌}
use Rattle.wasm_bytes.specs.Reading.{◌>>=◌, ◌⊗◌, ◌▷◌, checked}
use Rattle.wasm_bytes.specs.calls.Spelling.{Spellings, ◌&◌, pair, image, passing, items, any}
use Rattle.wasm_bytes.specs.Laws.{IsExact, IsTail, TakesBytes}
use Rattle.wasm_bytes.proofs.Exact.{image_exact, then_exact, mapped_exact, same_exact, leads_exact, checked_exact}
use Rattle.wasm_bytes.proofs.ExactBlocks.{leads_tail, image_tail, closed_tail}
use Rattle.wasm_bytes.proofs.ExactLists.{to_end_tail}
use Rattle.dwarf_bytes.specs.Items.{number_item, is_unit_length, counted_block_item, unit_block_item}
use Rattle.dwarf_bytes.specs.calls.Spelled.{number, counted}
use Rattle.dwarf_bytes.specs.Format.{Format, made, text, unless_empty, text_or_end, done, fixed, spelled, read}
use Rattle.dwarf_bytes.proofs.Exact.{number_exact, in_block_exact}
use Rattle.dwarf_bytes.proofs.Fronts.{front_block_exact}
use Rattle.dwarf_bytes.proofs.Lists.{ended_exact}
use Rattle.dwarf_bytes.proofs.Formats.{format_exact}
use Rattle.dwarf_line.specs.declared.header.Tables.{Tables}
use Rattle.dwarf_line.specs.declared.header.Header.{Header}
use Rattle.dwarf_line.specs.Parameters.{Parameters, parameters}
use Rattle.dwarf_line.specs.Opcodes.{opcode}
use Rattle.dwarf_line.specs.Header.{Layout, header_of, in_header, header_item, header_or_none, file, file_of, tables_of, tables_item, old_layout, layout}
use Rattle.dwarf_line.specs.Program.{said, opcodes_item, program_item, lines_item}
use Rattle.dwarf_line.specs.calls.Grammar.{header, opcodes, program, versioned, line_program, tables, lines}
use Rattle.wasm_leb.proofs.Tools.{chosen}

-- ---- the header

header_exact : (names : Tables → Spellings) (l : Layout) → IsExact names l.tables → IsExact (header names l) (header_item l)
unfolding header_item counted_block_item
header_exact names l e =
    let inner = image_exact (pair (spelled (parameters l.operations)) names) (header_of l.first) (read (parameters l.operations) ⊗ l.tables) (then_exact (spelled (parameters l.operations)) names (read (parameters l.operations)) l.tables (format_exact (parameters l.operations)) e) in
    let block = front_block_exact (number 4) (number_item 4) (number_exact 4) (image (header_of l.first) (pair (spelled (parameters l.operations)) names)) (in_header l) inner in
    let both = leads_exact (spelled (fixed l.sizes done)) (λ u h. counted (image (header_of l.first) (pair (spelled (parameters l.operations)) names) h & any)) (read (fixed l.sizes done)) (λ u p. counted_block_item p >>= λ b. in_header l b.0 >>= λ h. Ok (h.0, b.1)) (format_exact (fixed l.sizes done)) (λ u. block) in
    same_exact _ (header names l) (header_item l) (λ h at front s. s.1) (λ h at front s. (tt, s)) both

-- ---- opcodes

opcode_bytes : (h : Parameters) → TakesBytes (spelled (opcode h))
opcode_bytes h op at front s = omega (arith, s.1.2.0, ap length s.1.4, length-append s.1.0 s.1.1)

opcodes_tail : (h : Header) → IsTail (opcodes h) (opcodes_item h)
unfolding opcodes_item
opcodes_tail h = image_tail (items (spelled (opcode h.parameters))) (said h) _ (to_end_tail (spelled (opcode h.parameters)) (read (opcode h.parameters)) (format_exact (opcode h.parameters)) (opcode_bytes h.parameters))

-- ---- programs

-- the tables of each version are read as they are spelled
abbrev pub AreTablesExact : (ℕ → Tables → Spellings) → (ℕ → Option Layout) → Type 0
AreTablesExact names versions = (v : ℕ) (l : Layout) → versions v ≡ Some l → IsExact (names v) l.tables

program_tail : (names : Tables → Spellings) (o : Option Layout) → ((l : Layout) → o ≡ Some l → IsExact names l.tables) → IsTail (program names o) (header_or_none o ▷ opcodes_item)
program_tail names (Some l) e = leads_tail (header names l) opcodes (header_item l) opcodes_item (header_exact names l (e l refl)) opcodes_tail
program_tail names None e = record {
  sound = λ before after x q fits read. absurd cc;
  again = λ before after x s. absurd s;
}

versioned_tail : (names : ℕ → Tables → Spellings) (versions : ℕ → Option Layout) → AreTablesExact names versions → IsTail (versioned names versions) (program_item versions)
unfolding program_item
versioned_tail names versions e = leads_tail (number 2) (λ v. program (names v) (versions v)) (number_item 2) (λ v. header_or_none (versions v) ▷ opcodes_item) (number_exact 2) (λ v. program_tail (names v) (versions v) (e v))

pub line_program_exact : (names : ℕ → Tables → Spellings) (versions : ℕ → Option Layout) → AreTablesExact names versions → IsExact (line_program names versions) (lines_item versions)
unfolding lines_item unit_block_item
line_program_exact names versions e =
    let length_exact = checked_exact is_unit_length (number 4) (number_item 4) (number_exact 4) in
    in_block_exact (passing is_unit_length (number 4)) (checked is_unit_length (number_item 4)) length_exact (λ n. versioned names versions) (λ n. program_item versions) (λ n. closed_tail (versioned names versions) (program_item versions) (versioned_tail names versions e))

-- ---- versions 2 to 4

text_bytes : {A : Type 0} (f : List ℕ → Format A) → TakesBytes (spelled (text f))
text_bytes f x at front s = omega (arith, ap length s.1.2.0, ap length s.1.4, length-append s.1.0 s.1.1, length-append s.0 (0 ∷ []))

pub tables_exact : IsExact tables tables_item
unfolding tables_item
tables_exact =
    let directories = ended_exact (spelled text_or_end) (read text_or_end) (text_bytes (λ t. made (unless_empty t))) (format_exact text_or_end) in
    let files = ended_exact (spelled file) (read file) (text_bytes file_of) (format_exact file) in
    mapped_exact _ tables tables_of (λ (t : Tables). (t.directories, t.files)) _ (λ t. refl) (λ x at front s. s) (λ t at front s. s) (then_exact _ _ _ _ directories files)

pub old_tables : AreTablesExact (λ version. tables) layout
unfolding layout
old_tables v l e = elim (chosen (leb 2 v && leb v 4) _ _ (Some l) e) [
  | inl c ↦ let same : old_layout v ≡ l = (let some : Some (old_layout v) ≡ Some l = c.1 in cc) in subst (λ (k : Layout). IsExact tables k.tables) same tables_exact
  | inr c ↦ absurd (let no : None ≡ Some l = c.1 in cc)
]

pub lines_exact : IsExact lines (lines_item layout)
lines_exact = line_program_exact (λ version. tables) layout old_tables
