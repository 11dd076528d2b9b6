use Rattle.std.proofs.Common.{◌<◌, arith}
use Rattle.std.proofs.lemmas.Int.{ints, to_z-of_z}
use Rattle.var_values.specs.inner.Wide.{number}
use Rattle.var_values.proofs.word.wide_at.Goals as goal
use Rattle.var_values.proofs.FuelLaws.{joined_bytes}

pub returns : goal.returns
returns c =
    let some : 0 < c.args.count = omega arith in
    joined_bytes c.args.view.now.memory c.args.source.now c.args.index c.args.count (number c.with_first.result) c.byte_at.result c.number_at-rest.result some c.with_first.ensures
    (search (arith, ints, to_z-of_z, c.byte_at.ensures)) (search (arith, ints, to_z-of_z, c.number_at-rest.ensures.is))
