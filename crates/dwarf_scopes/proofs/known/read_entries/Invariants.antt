use Rattle.std.proofs.Common.{◌≡◌, ◌+◌, ◌-◌, length}
use Rattle.dwarf_scopes.specs.declared.known.ListPlace.{ListPlace}
use Rattle.dwarf_scopes.specs.inner.Passing.{Leads}
use Rattle.dwarf_scopes.proofs.known.read_entries.Given as goal

abbrev pub invariant-entries : goal.invariant-entries
invariant-entries g l = record {
  led : Leads (g.K.ListKind.section l.sections) (g.K.ListKind.item l.sections) l.passed l.start (let p : ListPlace = record { way = l.start.way; base = l.base; at = l.reader.at } in p);
  block : l.reader.block ≡ g.K.ListKind.section l.sections l.start.way;
}

abbrev pub decreases-entries : goal.decreases-entries
decreases-entries g l = length l.reader.block + 1 - l.reader.at
