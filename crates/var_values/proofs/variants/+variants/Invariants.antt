use Rattle.std.proofs.Common.{◌≡◌, ◌-◌, ◌+◌, ◌*◌, ◌++◌, length}
use Rattle.std.specs.List.{flat_map}
use Rattle.dwarf_entries.specs.Standing.{standing_in, inside}
use Rattle.var_values.specs.Variants.{child_items, items}
use Rattle.var_values.proofs.variants.+variants.Given as goal

abbrev pub decreases-push_items : goal.decreases-push_items
decreases-push_items l = 2 * l.most

abbrev pub decreases-push_child : goal.decreases-push_child
decreases-push_child l = 2 * l.further + 1

abbrev pub invariant-push_items-entries : goal.invariant-push_items-entries
invariant-push_items-entries l =
    l.fn.items ++ flat_map (child_items l.structure.units.now l.structure.view.now.memory l.structure.place.now (items l.structure.units.now l.structure.view.now.memory l.structure.place.now (l.most - 1)) l.standing.entry.depth) (inside l.standing)
    ≡ l.items ++ flat_map (child_items l.structure.units.now l.structure.view.now.memory l.structure.place.now (items l.structure.units.now l.structure.view.now.memory l.structure.place.now (l.most - 1)) l.standing.entry.depth) (standing_in l.standing.unit l.left)

abbrev pub decreases-push_items-entries : goal.decreases-push_items-entries
decreases-push_items-entries l = length l.left
