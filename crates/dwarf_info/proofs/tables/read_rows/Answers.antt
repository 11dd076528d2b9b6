use Rattle.std.proofs.Common.{◌≡◌, ◌≤◌, ℕ, List, [], length, Option, Some, None, Result, Ok, Err, refl, sym, ap, subst, ◌∙◌, arith}
use Rattle.std.specs.Ordering.{nat_cmp}
use Rattle.std.specs.BTreeMap.{get}
use Rattle.wasm_bytes.specs.declared.faults.ItemFault.{ItemFault}
use Rattle.wasm_bytes.specs.declared.faults.ItemFault.TheVariants as faults
use Rattle.wasm_bytes.specs.Place.{Place}
use Rattle.dwarf_info.specs.declared.form.Shape.{Shape}
use Rattle.dwarf_info.specs.declared.tables.PlacedRow.{PlacedRow}
use Rattle.dwarf_info.specs.calls.Keeping.{FirstRow, rows_of}
use Rattle.dwarf_info.specs.calls.Pairs.{Knows}
use Rattle.dwarf_info.specs.inner.Rows.{IsRow, Leads}
use Rattle.dwarf_info.proofs.RowLaws.{first_row, place_is, is_row, first_table, leads_on}
use Rattle.dwarf_info.proofs.tables.read_rows.Goals as goal

pub rows-init : goal.rows-init
rows-init g c =
    let rows = (rows_of g.V.UnitVersion.pair) in
    let section = c.args.sections.now.base.abbreviations in
    let start : c.args.start ≡ c.starting_at-reader.result.at = sym (ap (λ (p : Place). p.at) c.starting_at-reader.ensures) in
    record {
      led = subst (λ (rs : List PlacedRow). Leads rows section rs c.args.start c.starting_at-reader.result.at) (sym c.requires.none) start;
      block = ap (λ (p : Place). p.block) c.starting_at-reader.ensures ∙ c.requires.section;
    }

pub rows-preserved : goal.rows-preserved
rows-preserved g c =
    let rows = (rows_of g.V.UnitVersion.pair) in
    let section = c.args.sections.now.base.abbreviations in
    let p = c.rows.reader in
    let q = c.read_row-row.new.reader in
    let shape = c.in-Ok-Some.shape in
    let r : PlacedRow = record { at = c.at-at.result; shape = shape } in
    let block = c.rows.invariant.block in
    let behind_block : q.block ≡ section = c.in-Ok-Some.ensures.moves.1 ∙ block in
    let inside : p.at ≤ length section = omega (arith, c.at-at.ensures.inside, ap length block) in
    let item = subst (λ (o : Option Shape). FirstRow rows p (Ok o) q) c.in-Ok-Some.field-0-is (first_row g.V.UnitVersion.pair p q (Ok c.in-Ok-Some.field-0) c.in-Ok-Some.ensures.item) in
    let row : IsRow rows section p.at shape q.at = is_row rows section p.at q.at shape p q (place_is p section block) (place_is q section behind_block) inside c.in-Ok-Some.ensures.moves.0 item in
    record {
      led = subst (λ (rs : List PlacedRow). Leads rows section rs c.args.start q.at) (sym c.in_ok-push-in-Ok-Some.ensures.ok) (leads_on rows section c.rows.rows c.args.start p.at q.at r c.rows.invariant.led c.at-at.ensures.is row);
      block = behind_block;
    }

pub returns-in-Ok-None-clause-table : goal.returns-in-Ok-None-clause-table
returns-in-Ok-None-clause-table g c =
    let rows = (rows_of g.V.UnitVersion.pair) in
    let section = c.args.sections.now.base.abbreviations in
    let p = c.rows.reader in
    let here = place_is p section c.rows.invariant.block ∙ ap (λ (a : ℕ). (let x : Place = record { block = section; at = a } in x)) (sym c.at-at.ensures.is) in
    let inside : c.at-at.result ≤ length section = omega (arith, c.at-at.ensures.inside, c.at-at.ensures.is, ap length c.rows.invariant.block) in
    first_table rows section c.at-at.result p (Some []) here inside (subst (λ (o : Option Shape). FirstRow rows p (Ok o) c.read_row-row.new.reader) c.in-Ok-None.field-0-is (first_row g.V.UnitVersion.pair p c.read_row-row.new.reader (Ok c.in-Ok-None.field-0) c.in-Ok-None.ensures.item))

pub returns-in-Err-At-clause-table : goal.returns-in-Err-At-clause-table
returns-in-Err-At-clause-table g c =
    let rows = (rows_of g.V.UnitVersion.pair) in
    let section = c.args.sections.now.base.abbreviations in
    let p = c.rows.reader in
    let q = c.read_row-row.new.reader in
    let here = place_is p section c.rows.invariant.block ∙ ap (λ (a : ℕ). (let x : Place = record { block = section; at = a } in x)) (sym c.at-at.ensures.is) in
    let inside : c.at-at.result ≤ length section = omega (arith, c.at-at.ensures.inside, c.at-at.ensures.is, ap length c.rows.invariant.block) in
    let is : c.read_row-row.result ≡ Err (faults.At c.in-Err-At.field-0-0) = c.in-Err-At.is ∙ ap (λ (e : ItemFault). Err e) (rw c.in-Err-At.is at c.in-Err-At.field-0-is) in
    first_table rows section c.at-at.result p None here inside (subst (λ (r : Result (Option Shape) ItemFault). FirstRow rows p r q) is (first_row g.V.UnitVersion.pair p q c.read_row-row.result c.read_row-row.ensures.item))

pub read_row-row-requires : goal.read_row-row-requires
read_row-row-requires g c κs =
    let pair = g.V.UnitVersion.pair in
    let known = c.args.pairs.now in
    let block = c.rows.invariant.block ∙ sym c.requires.section in
    let knows = subst (λ (b : List ℕ). Knows pair b known.lists.value (get nat_cmp known.known)) (sym c.requires.section) c.requires.knows in
    ((refl, tt), (block, knows))
