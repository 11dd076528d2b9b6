use Rattle.std.proofs.Common.{◌≡◌, ◌++◌, length}
use Rattle.std.specs.List.{flat_map}
use Rattle.dwarf_entries.specs.Standing.{standing_in}
use Rattle.dwarf_types.specs.calls.Inside.{picked}
use Rattle.var_values.specs.Variants.{child_items, items}
use Rattle.var_values.proofs.variants.push_children.Given as goal

abbrev pub invariant-positions : goal.invariant-positions
invariant-positions l =
    l.initial.items ++ flat_map (child_items l.structure.units.now l.structure.view.now.memory l.structure.place.now (items l.structure.units.now l.structure.view.now.memory l.structure.place.now l.further) l.depth) (picked l.positions (standing_in l.unit l.inside))
    ≡ l.items ++ flat_map (child_items l.structure.units.now l.structure.view.now.memory l.structure.place.now (items l.structure.units.now l.structure.view.now.memory l.structure.place.now l.further) l.depth) (picked l.left (standing_in l.unit l.inside))

abbrev pub decreases-positions : goal.decreases-positions
decreases-positions l = length l.left
