use Rattle.std.proofs.Common.{length}
use Rattle.dwarf_scopes.specs.declared.known.ListPlace.{ListPlace}
use Rattle.dwarf_scopes.specs.calls.Knowing.{AreSaid, IsSaid}
use Rattle.dwarf_scopes.specs.inner.Passing.{Leads}
use Rattle.dwarf_scopes.proofs.known.keep_entries.Given as goal

abbrev pub invariant-entries : goal.invariant-entries
invariant-entries g l = record {
  right : AreSaid (g.K.ListKind.section l.sections) (g.K.ListKind.item l.sections) l.address l.lists;
  led : (to : ListPlace) × Leads (g.K.ListKind.section l.sections) (g.K.ListKind.item l.sections) l.passed l.fn.start to
      × IsSaid (g.K.ListKind.section l.sections) (g.K.ListKind.item l.sections) l.address to l.said;
}

abbrev pub decreases-entries : goal.decreases-entries
decreases-entries g l = length l.passed
