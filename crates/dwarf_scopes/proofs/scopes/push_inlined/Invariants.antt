use Rattle.std.proofs.Common.{◌≡◌, ◌++◌, false, length}
use Rattle.std.specs.Prelude.{filter}
use Rattle.dwarf_entries.specs.Standing.{standing_in}
use Rattle.dwarf_scopes.specs.inner.Picks.{is_wanted}
use Rattle.dwarf_scopes.specs.inner.Fronts.{StandFrom}
use Rattle.dwarf_scopes.specs.calls.Knowing.{AreRight}
use Rattle.dwarf_scopes.proofs.scopes.push_inlined.Given as goal

abbrev pub invariant-entries : goal.invariant-entries
invariant-entries l = record {
  right : AreRight l.pick.sections.now l.pick.address l.lists;
  stand : StandFrom l.at l.left l.unit.entries;
  so_far : l.initial.found ++ filter (is_wanted false l.pick.sections.now l.pick.address) (standing_in l.unit l.entries) ≡ l.found ++ filter (is_wanted false l.pick.sections.now l.pick.address) (standing_in l.unit l.left);
}

abbrev pub decreases-entries : goal.decreases-entries
decreases-entries l = length l.left
