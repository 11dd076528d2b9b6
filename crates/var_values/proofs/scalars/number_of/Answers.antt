use Rattle.std.proofs.Common.{rules, ◌<◌, ◌^◌, arith}
use Rattle.std.proofs.lemmas.Int.{ints}
use Rattle.var_values.proofs.ScalarLaws.{narrow_number}
use Rattle.var_values.proofs.scalars.number_of.Goals as goal

pub overflow_cast-result : goal.overflow_cast-result
overflow_cast-result c =
    let low : c.args.word < 2 ^ 64 = narrow_number c.args.signed c.args.count c.args.word c.requires.narrow c.if-signed.false c.requires.below in
    search (arith, ints, rules)

pub returns-else-signed : goal.returns-else-signed
returns-else-signed c =
    let low : c.args.word < 2 ^ 64 = narrow_number c.args.signed c.args.count c.args.word c.requires.narrow c.if-signed.false c.requires.below in
    grind (arith, ints)
