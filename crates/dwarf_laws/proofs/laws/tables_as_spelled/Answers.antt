use Rattle.dwarf_laws.proofs.Tables.{read_as_spelled, unread_as_spelled}
use Rattle.dwarf_laws.proofs.laws.tables_as_spelled.Goals as goal

pub returns : goal.returns
returns c = record {
  read = read_as_spelled;
  unread = unread_as_spelled;
}
