-- A line program of version 5 is read exactly as it is spelled.
use Rattle.std.proofs.Common.{◌≡◌, ℕ, Bool, true, false, eqb, List, length, Some, refl, sym, subst}
use Rattle.wasm_bytes.specs.Reading.{◌⊗◌, checked, u64_item, items_from}
use Rattle.wasm_bytes.specs.calls.Spelling.{◌&◌, pair, leads, passing, items, u64}
use Rattle.wasm_bytes.specs.Laws.{IsExact}
use Rattle.std.specs.Prelude.{if◌then◌else◌}
use Rattle.wasm_bytes.proofs.Exact.{image_exact, then_exact, same_exact, leads_exact, checked_exact}
use Rattle.wasm_bytes.proofs.ExactItems.{u64_exact}
use Rattle.wasm_bytes.proofs.ExactLists.{counted, items_exact}
use Rattle.dwarf_bytes.specs.Items.{number_item, each_item}
use Rattle.dwarf_bytes.specs.calls.Spelled.{each, number}
use Rattle.dwarf_bytes.specs.Format.{spelled, read}
use Rattle.dwarf_bytes.proofs.Exact.{number_exact}
use Rattle.dwarf_bytes.proofs.Lists.{each_exact}
use Rattle.dwarf_bytes.proofs.Formats.{format_exact}
use Rattle.dwarf_line.specs.Header.{Layout, layout}
use Rattle.dwarf_line.specs.Program.{lines_item}
use Rattle.dwarf_line.proofs.Laws.{AreTablesExact, line_program_exact, old_tables}
use Rattle.dwarf5_line.specs.declared.entries.Pair.{Pair}
use Rattle.dwarf5_line.specs.Entries as entries
use Rattle.dwarf5_line.specs.Entries.{Texts, describes, content, described_item, file_of, entry_item, may_count, counted_item, pairs_item, entries_item, tables_of, tables_item}
use Rattle.dwarf5_line.specs.Layout5.{new_layout, layout5, described, entry, counted_entries, pairs, entry_table, tables5, tables_if, tables, lines5}

entry_exact : (t : Texts) (ps : List Pair) → IsExact (entry t ps) (entry_item t ps)
unfolding entry_item
entry_exact t ps = image_exact (each (described t) ps) file_of (each_item (described_item t) ps)
    (each_exact (described t) (described_item t) (λ p. image_exact (spelled (content t p.form)) (describes p.kind) (read (content t p.form)) (format_exact (content t p.form))) ps)

pairs_exact : IsExact pairs pairs_item
unfolding pairs_item
pairs_exact = same_exact (leads (number 1) (counted (spelled entries.pair))) pairs pairs_item
    (λ ps at front s. (s.1.0, s.1.1, subst (λ (n : ℕ). number 1 n at s.1.0) (sym s.1.3.0) s.1.2, s.1.3.1, s.1.4))
    (λ ps at front s. (length ps, (s.0, s.1, s.2, (refl, s.3), s.4)))
    (leads_exact (number 1) (counted (spelled entries.pair)) (number_item 1) (items_from (read entries.pair)) (number_exact 1) (items_exact (spelled entries.pair) (read entries.pair) (format_exact entries.pair)))

counted_entries_exact : (t : Texts) (ps : List Pair) → IsExact (counted_entries t ps) (counted_item t ps)
unfolding counted_item
counted_entries_exact t ps = same_exact (leads (passing (may_count ps) u64) (counted (entry t ps))) (counted_entries t ps) (counted_item t ps)
    (λ xs at front s. subst (λ (n : ℕ). (may_count ps n ≡ true) × (u64 n & items (entry t ps) xs) at front) (sym s.1.3.0) (s.1.2.0, (s.1.0, s.1.1, s.1.2.1, s.1.3.1, s.1.4)))
    (λ xs at front s. (length xs, (s.1.0, s.1.1, (s.0, s.1.2), (refl, s.1.3), s.1.4)))
    (leads_exact (passing (may_count ps) u64) (counted (entry t ps)) (checked (may_count ps) u64_item) (items_from (entry_item t ps)) (checked_exact (may_count ps) u64 u64_item u64_exact) (items_exact (entry t ps) (entry_item t ps) (entry_exact t ps)))

entry_table_exact : (t : Texts) → IsExact (entry_table t) (entries_item t)
unfolding entries_item
entry_table_exact t = leads_exact pairs (counted_entries t) pairs_item (counted_item t) pairs_exact (counted_entries_exact t)

tables5_exact : (t : Texts) → IsExact (tables5 t) (tables_item t)
unfolding tables_item
tables5_exact t = image_exact (pair (entry_table t) (entry_table t)) tables_of (entries_item t ⊗ entries_item t) (then_exact (entry_table t) (entry_table t) (entries_item t) (entries_item t) (entry_table_exact t) (entry_table_exact t))

tables_by : (t : Texts) (v : ℕ) (l : Layout) (b : Bool) → (if b then Some (new_layout t) else layout v) ≡ Some l → IsExact (tables_if t b) l.tables
tables_by t v l true e = let same : new_layout t ≡ l = cc in subst (λ (k : Layout). IsExact (tables5 t) k.tables) same (tables5_exact t)
tables_by t v l false e = old_tables v l e

new_tables : (t : Texts) → AreTablesExact (tables t) (layout5 t)
unfolding layout5
new_tables t v l e = tables_by t v l (eqb v 5) e

pub lines5_exact : (t : Texts) → IsExact (lines5 t) (lines_item (layout5 t))
lines5_exact t = line_program_exact (tables t) (layout5 t) (new_tables t)
