use Rattle.std.proofs.Common.{◌-◌, ◌<◌, ◌≤◌, arith}
use Rattle.std.proofs.lemmas.Int.{ints, to_z-of_z}
use Rattle.var_values.proofs.FuelLaws.{joined_bytes, short_number, one_byte_more}
use Rattle.var_values.proofs.numbers.+number_at.Goals as goal

pub joined-requires : goal.joined-requires
joined-requires t c =
    let few : c.args.count - 1 ≤ 15 = omega arith in
    short_number c.number_at-rest.result (c.args.count - 1) few c.number_at-rest.ensures.below

pub returns-clause-is : goal.returns-clause-is
returns-clause-is t c =
    let some : 0 < c.args.count = omega arith in
    joined_bytes c.args.view.now.memory c.args.source.now c.args.index c.args.count c.joined.result c.byte_at.result c.number_at-rest.result some c.joined.ensures.is
    (search (arith, ints, to_z-of_z, c.byte_at.ensures)) (search (arith, ints, to_z-of_z, c.number_at-rest.ensures.is))

pub returns-clause-below : goal.returns-clause-below
returns-clause-below t c =
    let some : 0 < c.args.count = omega arith in
    one_byte_more c.joined.result c.args.count some (c.joined.ensures.below _ c.number_at-rest.ensures.below)
