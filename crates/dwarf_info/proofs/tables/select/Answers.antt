use Rattle.std.proofs.Common.{◌<◌, sym, ap, ◌∙◌, length, arith}
use Rattle.std.proofs.lemmas.Result.{IfOk-weaker}
use Rattle.dwarf_info.specs.Sections.{SectionBytes5}
use Rattle.dwarf_info.specs.calls.Keeping.{numbered, rows_of}
use Rattle.dwarf_info.proofs.RowLaws.{none_of, none_past, table_read}
use Rattle.dwarf_info.proofs.tables.select.Goals as goal

pub returns-then-at-section-clause-table : goal.returns-then-at-section-clause-table
returns-then-at-section-clause-table g c =
    let section = c.args.sections.now.base.abbreviations in
    let past : length section < c.args.at = omega (arith, c.if-at-section.true, ap length (c.abbreviations-section.ensures ∙ ap (λ (s : SectionBytes5). s.base.abbreviations) c.sections.ensures)) in
    sym (none_past g.V.UnitVersion.version.shapes (rows_of g.V.UnitVersion.pair) c.rows_are_shapes.ensures section (none_of g.V.UnitVersion.pair) c.args.at past)

pub returns-in-Ok-clause-table : goal.returns-in-Ok-clause-table
returns-in-Ok-clause-table g c =
    IfOk-weaker c.keep_rows.result _ _
    (λ table is. sym (table_read g.V.UnitVersion.version.shapes (rows_of g.V.UnitVersion.pair) c.rows_are_shapes.ensures c.args.sections.now.base.abbreviations c.args.at (numbered c.keep_rows.new.tables table) is))
    c.keep_rows.ensures.table
