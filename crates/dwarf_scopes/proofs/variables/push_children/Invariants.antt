use Rattle.std.proofs.Common.{◌≡◌, ◌++◌, ◌-◌, ◌≤◌, length, drop}
use Rattle.std.specs.Prelude.{filter}
use Rattle.dwarf_entries.specs.Standing.{standing_in}
use Rattle.dwarf_scopes.specs.inner.Picks.{is_variable_of}
use Rattle.dwarf_scopes.proofs.variables.push_children.Given as goal

abbrev pub invariant-entries : goal.invariant-entries
invariant-entries l = (l.at ≤ length l.entries) × (l.initial.variables ++ filter (is_variable_of l.depth) (standing_in l.unit l.entries) ≡ l.variables ++ filter (is_variable_of l.depth) (standing_in l.unit (drop l.at l.entries)))

abbrev pub decreases-entries : goal.decreases-entries
decreases-entries l = length l.entries - l.at
