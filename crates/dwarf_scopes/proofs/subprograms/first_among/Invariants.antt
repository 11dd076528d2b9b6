use Rattle.std.proofs.Common.{◌≡◌, drop}
use Rattle.std.specs.Prelude.{find}
use Rattle.dwarf_entries.specs.Standing.{standing}
use Rattle.dwarf_scopes.specs.Scopes.{is_subprogram_at}
use Rattle.dwarf_scopes.specs.calls.Knowing.{AreRight}
use Rattle.dwarf_scopes.proofs.subprograms.first_among.Given as goal

abbrev pub invariant-loop-answer : goal.invariant-loop-answer
invariant-loop-answer l = record {
  right : AreRight l.sections l.address l.lists;
  so_far : find (is_subprogram_at l.sections l.address) (standing l.units) ≡ find (is_subprogram_at l.sections l.address) (standing (drop l.answer-index l.units));
}
