use Rattle.std.proofs.Common.{◌≡◌, ◌+◌, ◌-◌, length}
use Rattle.dwarf_scopes.proofs.BaseLaws.{Completes}
use Rattle.dwarf_scopes.proofs.bases.read_bases.Given as goal

abbrev pub invariant-entries : goal.invariant-entries
invariant-entries g l = record {
  completes : Completes (g.K.ListKind.section l.sections) (g.K.ListKind.item l.sections) l.address l.way l.start l.reader.at l.selected l.ranges;
  block : l.reader.block ≡ g.K.ListKind.section l.sections l.way;
}

abbrev pub decreases-entries : goal.decreases-entries
decreases-entries g l = length l.reader.block + 1 - l.reader.at
