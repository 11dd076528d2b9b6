use Rattle.std.proofs.Common.{◌≡◌, arith, to_z, of_z}
use Rattle.std.specs.Int.{w128}
use Rattle.std.proofs.lemmas.Int.{ints}
use Rattle.std.specs.Prelude.{option_copied}
use Rattle.var_values.proofs.EnumeratorLaws.{first_known}
use Rattle.var_values.proofs.texts.first_enumerator.Goals as goal

pub returns-in-Some : goal.returns-in-Some
returns-in-Some c =
    let same : to_z w128 (of_z w128 c.args.value) ≡ c.args.value = omega (arith, ints) in
    first_known c.args.standing.now c.in-Some.known.now c.args.size (to_z w128 (of_z w128 c.args.value)) c.args.value (option_copied c.enumerator_by.result) same c.enumerator_by.ensures c.in-Some.ensures.size
