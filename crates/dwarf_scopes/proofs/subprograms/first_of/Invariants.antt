use Rattle.std.proofs.Common.{◌≡◌, length}
use Rattle.std.specs.Prelude.{find}
use Rattle.dwarf_entries.specs.Standing.{standing_in}
use Rattle.dwarf_scopes.specs.Scopes.{is_subprogram_at}
use Rattle.dwarf_scopes.specs.calls.Knowing.{AreRight}
use Rattle.dwarf_scopes.proofs.subprograms.first_of.Given as goal

abbrev pub invariant-entries : goal.invariant-entries
invariant-entries l = record {
  right : AreRight l.sections l.address l.lists;
  so_far : find (is_subprogram_at l.sections l.address) (standing_in l.unit l.entries) ≡ find (is_subprogram_at l.sections l.address) (standing_in l.unit l.left);
}

abbrev pub decreases-entries : goal.decreases-entries
decreases-entries l = length l.left
