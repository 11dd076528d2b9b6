use Rattle.std.proofs.Common.{◌≡◌, ◌++◌, drop}
use Rattle.dwarf_scopes.specs.calls.Tabled.{places_in}
use Rattle.dwarf_scopes.proofs.table.push_places.Given as goal

abbrev pub invariant-entries : goal.invariant-entries
invariant-entries l = l.initial.places ++ places_in l.unit l.number 0 l.entries ≡ l.places ++ places_in l.unit l.number l.index (drop l.index l.entries)
