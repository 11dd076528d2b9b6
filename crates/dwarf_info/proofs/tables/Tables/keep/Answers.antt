use Rattle.std.proofs.Common.{refl}
use Rattle.dwarf_info.specs.declared.tables.Tables.{Tables}
use Rattle.dwarf_info.proofs.KeepLaws.{keeps_at, keeps_same}
use Rattle.dwarf_info.proofs.tables.Tables.keep.Goals as goal

pub returns-clause-kept : goal.returns-clause-kept
returns-clause-kept c =
    let after : Tables = record { lists = c.args.self.now.lists; read = c.insert.new.self } in
    keeps_at c.args.self.now after c.args.at c.args.table refl c.in_ok-insert.ensures.updates.0 c.requires

pub returns-in_err-insert-clause-kept : goal.returns-in_err-insert-clause-kept
returns-in_err-insert-clause-kept c = λ rows s keeps is.
    let after : Tables = record { lists = c.args.self.now.lists; read = c.insert.new.self } in
    keeps_same c.args.self.now after refl c.in_err-insert.ensures.err rows s keeps
