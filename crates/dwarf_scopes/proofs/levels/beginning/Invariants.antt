use Rattle.std.proofs.Common.{◌-◌, ◌≤◌}
use Rattle.dwarf_scopes.proofs.levels.beginning.Given as goal

abbrev pub invariant-levels : goal.invariant-levels
invariant-levels l = l.count ≤ l.levels

abbrev pub decreases-levels : goal.decreases-levels
decreases-levels l = l.levels - l.count
