use Rattle.dwarf_laws.proofs.Inside.{insides_written, siblings_written}
use Rattle.dwarf_laws.proofs.laws.entries_in_entries.Goals as goal

pub returns : goal.returns
returns c = record {
  written = insides_written;
  children = siblings_written;
}
