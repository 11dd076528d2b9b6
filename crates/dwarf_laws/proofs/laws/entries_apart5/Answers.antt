use Rattle.dwarf_laws.proofs.Offsets.{entries_inside5, entries_apart5}
use Rattle.dwarf_laws.proofs.laws.entries_apart5.Goals as goal

pub returns : goal.returns
returns c = record {
  inside = entries_inside5;
  apart = entries_apart5;
}
