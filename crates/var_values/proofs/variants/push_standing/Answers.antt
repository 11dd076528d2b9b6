use Rattle.std.proofs.Common.{◌-◌, refl}
use Rattle.std.proofs.lemmas.Result.{on_ok_weaker}
use Rattle.dwarf_entries.specs.Origins.{longest_chain}
use Rattle.var_values.proofs.VariantLaws.{known_items}
use Rattle.var_values.proofs.variants.push_standing.Goals as goal

pub returns : goal.returns
returns c =
    on_ok_weaker c.push_children.result
    (known_items c.args.structure.now.units.now c.args.structure.now.view.now.memory c.args.structure.now.place.now c.args.standing.now c.standing-2.result.now c.entry.result.now c.unit.result.now c.inside_at.result.now (longest_chain - 1)
    c.in-Some.contents.now.positions c.positions.result.now c.args.items.now c.push_children.new.items
    c.in-Some.ensures.told c.entry.ensures c.standing-2.ensures c.unit.ensures c.inside_at.ensures c.positions.ensures refl)
    c.push_children.ensures
