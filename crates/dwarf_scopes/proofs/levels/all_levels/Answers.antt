use Rattle.dwarf_scopes.proofs.LevelLaws.{levels_all}
use Rattle.dwarf_scopes.proofs.levels.all_levels.Goals as goal

pub returns : goal.returns
returns c = levels_all c.units.levels c.args.units.now c.units.left.now c.units.invariant
