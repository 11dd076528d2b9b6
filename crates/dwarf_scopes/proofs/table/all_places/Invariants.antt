use Rattle.std.proofs.Common.{◌≡◌, ◌++◌, drop}
use Rattle.dwarf_scopes.specs.calls.Tabled.{places_from}
use Rattle.dwarf_scopes.proofs.table.all_places.Given as goal

abbrev pub invariant-units : goal.invariant-units
invariant-units l = l.places ++ places_from l.number (drop l.number l.units) ≡ places_from 0 l.units
