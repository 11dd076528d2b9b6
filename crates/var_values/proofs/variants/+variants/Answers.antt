use Rattle.std.proofs.Common.{◌<◌, arith}
use Rattle.var_values.proofs.VariantLaws.{all_pushed}
use Rattle.var_values.proofs.variants.+variants.Goals as goal

pub push_items-returns : goal.push_items-returns
push_items-returns t c =
    let some : 0 < c.args.most = omega arith in
    all_pushed c.args.structure.now.units.now c.args.structure.now.view.now.memory c.args.structure.now.place.now c.args.most c.args.standing.now c.args.items.now c.entries.items c.entries.left.now
    some c.in_default.len_below c.entries.invariant
