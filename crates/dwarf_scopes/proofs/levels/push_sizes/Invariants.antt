use Rattle.std.proofs.Common.{◌<◌, ◌-◌, length}
use Rattle.dwarf_scopes.specs.calls.Levels.{AreParts}
use Rattle.dwarf_scopes.proofs.LevelLaws.{Grows}
use Rattle.dwarf_scopes.proofs.levels.push_sizes.Given as goal

abbrev pub invariant-sizes : goal.invariant-sizes
invariant-sizes l = (0 < l.size) × (AreParts l.size l.parts l.entries × Grows l.entries l.levels)

abbrev pub decreases-sizes : goal.decreases-sizes
decreases-sizes l = length l.entries - l.size
