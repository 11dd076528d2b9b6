use Rattle.std.proofs.Common.{◌≡◌, ℕ, false, true, List, [], ◌∷◌, Option, sym, ap, subst, length, length-append, arith}
use Rattle.dwarf_info.specs.declared.form.Shape.{Shape}
use Rattle.dwarf_info.specs.calls.Keeping.{IsTable, numbered, rows_of}
use Rattle.dwarf_info.proofs.RowLaws.{leads_end, last_table}
use Rattle.dwarf_info.proofs.KeepLaws.{there_same, table_same}
use Rattle.dwarf_info.proofs.tables.keep_rows.Goals as goal

pub returns-in_err-keep-clause-kept : goal.returns-in_err-keep-clause-kept
returns-in_err-keep-clause-kept g c = c.keep.ensures.kept (rows_of g.V.UnitVersion.pair) c.args.sections.now c.requires.kept c.requires.table

pub rows-init : goal.rows-init
rows-init g c =
    let rows = (rows_of g.V.UnitVersion.pair) in
    let section = c.args.sections.now.base.abbreviations in
    record {
      kept = c.keep.ensures.kept rows c.args.sections.now c.requires.kept c.requires.table;
      there = there_same c.args.tables.now c.keep.new.self c.keep.ensures.same c.args.stop.table c.requires.there;
      led = (c.args.stop.at, c.requires.led, table_same c.args.tables.now c.keep.new.self c.keep.ensures.same rows section c.args.stop.at c.args.stop.table c.requires.table);
    }

pub rows-smaller : goal.rows-smaller
rows-smaller g c = omega (arith, ap length c.in-Some.ensures.value, length-append c.pop.new.self (c.in-Some.row ∷ []))

pub rows-preserved : goal.rows-preserved
rows-preserved g c =
    let rows = (rows_of g.V.UnitVersion.pair) in
    let section = c.args.sections.now.base.abbreviations in
    let b = last_table rows section c.rows.rows c.pop.new.self c.in-Some.row c.args.start c.rows.invariant.led.0 (numbered c.rows.tables c.rows.table) c.in-Some.ensures.value c.rows.invariant.led.1 c.rows.invariant.led.2 in
    record {
      kept = c.with_row.ensures.kept rows c.args.sections.now c.rows.invariant.kept b.1;
      there = c.in_ok-first.ensures.there;
      led = (c.in-Some.row.at, b.0, subst (λ (t : Option (List Shape)). IsTable rows section c.in-Some.row.at t) (sym c.in_ok-first.ensures.table) b.1);
    }

pub returns-in_err-first-clause-kept : goal.returns-in_err-first-clause-kept
returns-in_err-first-clause-kept g c =
    let rows = (rows_of g.V.UnitVersion.pair) in
    let section = c.args.sections.now.base.abbreviations in
    let b = last_table rows section c.rows.rows c.pop.new.self c.in-Some.row c.args.start c.rows.invariant.led.0 (numbered c.rows.tables c.rows.table) c.in-Some.ensures.value c.rows.invariant.led.1 c.rows.invariant.led.2 in
    c.with_row.ensures.kept rows c.args.sections.now c.rows.invariant.kept b.1

pub returns-clause-table : goal.returns-clause-table
returns-clause-table g c =
    let rows = (rows_of g.V.UnitVersion.pair) in
    let section = c.args.sections.now.base.abbreviations in
    let next = c.rows.invariant.led.0 in
    let same : c.args.start ≡ next = leads_end rows section c.rows.rows c.args.start next (λ some. (let no : false ≡ true = c.in_default.ensures.variant.1 some in cc)) c.rows.invariant.led.1 in
    subst (λ (at : ℕ). IsTable rows section at (numbered c.rows.tables c.rows.table)) (sym same) c.rows.invariant.led.2
