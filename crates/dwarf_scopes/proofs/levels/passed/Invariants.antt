use Rattle.std.proofs.Common.{◌≤◌, length}
use Rattle.dwarf_scopes.proofs.levels.passed.Given as goal

abbrev pub invariant-levels : goal.invariant-levels
invariant-levels l = l.left ≤ length l.levels

abbrev pub decreases-levels : goal.decreases-levels
decreases-levels l = l.left
