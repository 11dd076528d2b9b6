use Rattle.std.proofs.Common.{◌≡◌, ◌++◌, ◌-◌, ◌≤◌, length, drop}
use Rattle.std.specs.Prelude.{filter, flat_map}
use Rattle.dwarf_entries.specs.Standing.{standing_in}
use Rattle.dwarf_scopes.specs.Scopes.{variables_of, is_scope_at}
use Rattle.dwarf_scopes.specs.calls.Knowing.{AreRight}
use Rattle.dwarf_scopes.proofs.variables.push_scopes.Given as goal

abbrev pub invariant-entries : goal.invariant-entries
invariant-entries l = (l.at ≤ length l.entries) × AreRight l.pick.sections.now l.pick.address l.lists × (l.initial.variables ++ flat_map variables_of (filter (is_scope_at l.pick.sections.now l.pick.address) (standing_in l.unit l.entries)) ≡ l.variables ++ flat_map variables_of (filter (is_scope_at l.pick.sections.now l.pick.address) (standing_in l.unit (drop l.at l.entries))))

abbrev pub decreases-entries : goal.decreases-entries
decreases-entries l = length l.entries - l.at
