use Rattle.dwarf_laws.proofs.Offsets.{entries_inside, entries_apart}
use Rattle.dwarf_laws.proofs.laws.entries_apart.Goals as goal

pub returns : goal.returns
returns c = record {
  inside = entries_inside;
  apart = entries_apart;
}
