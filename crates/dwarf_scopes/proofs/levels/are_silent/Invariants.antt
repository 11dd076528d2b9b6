use Rattle.std.proofs.Common.{[], length}
use Rattle.dwarf_scopes.proofs.LevelLaws.{InPart}
use Rattle.dwarf_scopes.proofs.levels.are_silent.Given as goal

abbrev pub invariant-entries : goal.invariant-entries
invariant-entries l = InPart [] l.left l.entries

abbrev pub decreases-entries : goal.decreases-entries
decreases-entries l = length l.left
