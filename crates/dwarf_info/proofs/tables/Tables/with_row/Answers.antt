use Rattle.std.proofs.Common.{List, Option, sym, subst, ◌∙◌}
use Rattle.dwarf_info.specs.declared.form.Shape.{Shape}
use Rattle.dwarf_info.specs.calls.Keeping.{IsTable}
use Rattle.dwarf_info.proofs.KeepLaws.{number_same, there_same}
use Rattle.dwarf_info.proofs.tables.Tables.with_row.Goals as goal

pub returns-in_err-table-clause-kept : goal.returns-in_err-table-clause-kept
returns-in_err-table-clause-kept c = λ rows s keeps is. c.made.ensures.kept rows s keeps

pub returns-in_err-keep-clause-kept : goal.returns-in_err-keep-clause-kept
returns-in_err-keep-clause-kept c = λ rows s keeps is.
    c.keep.ensures.kept rows s (c.made.ensures.kept rows s keeps) (subst (λ (t : Option (List Shape)). IsTable rows s.base.abbreviations c.args.row.at t) (sym c.in_ok-table.ensures.table) is)

pub returns-clause-kept : goal.returns-clause-kept
returns-clause-kept c = λ rows s keeps is.
    c.keep.ensures.kept rows s (c.made.ensures.kept rows s keeps) (subst (λ (t : Option (List Shape)). IsTable rows s.base.abbreviations c.args.row.at t) (sym c.in_ok-table.ensures.table) is)

pub returns-clause-there : goal.returns-clause-there
returns-clause-there c = there_same c.made.new.self c.keep.new.self c.keep.ensures.same c.in_ok-table.table c.in_ok-table.ensures.there

pub returns-clause-table : goal.returns-clause-table
returns-clause-table c = number_same c.made.new.self c.keep.new.self c.keep.ensures.same c.in_ok-table.table ∙ c.in_ok-table.ensures.table
