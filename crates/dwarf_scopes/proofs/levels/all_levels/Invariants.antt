use Rattle.std.proofs.Common.{◌++◌, List, length}
use Rattle.dwarf_scopes.specs.declared.levels.UnitLevels.{UnitLevels}
use Rattle.dwarf_scopes.specs.calls.Levels.{AreLeveled}
use Rattle.dwarf_scopes.proofs.levels.all_levels.Given as goal

abbrev pub invariant-units : goal.invariant-units
invariant-units l = (more : List UnitLevels) → AreLeveled more l.left → AreLeveled (l.levels ++ more) l.units

abbrev pub decreases-units : goal.decreases-units
decreases-units l = length l.left
