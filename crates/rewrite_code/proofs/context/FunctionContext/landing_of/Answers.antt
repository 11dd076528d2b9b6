use Rattle.std.proofs.Common.{◌∙◌, ◌-◌, length, ap, sym, refl, take, Some, option_map}
use Rattle.rewrite_bodies.specs.calls.Landings.{number_of, number_in, part_of, landing_of}
use Rattle.rewrite_code.specs.calls.Places.{place}
use Rattle.rewrite_code.specs.calls.KeptLandings.{made_landing}
use Rattle.rewrite_code.proofs.Same.{made_carrying}
use Rattle.rewrite_code.proofs.context.FunctionContext.landing_of.Goals as goal

pub returns-clause-number : goal.returns-clause-number
returns-clause-number c =
    let ops = c.as_slice-operands.result.now in
    let one = sym c.one_kind.ensures ∙ c.in-Some.is in
    let there = sym (ap (λ o. option_map place o) c.in-Some-peek.is) ∙ c.peek.ensures in
    let part = c.part_of.ensures ∙ ap (λ types. part_of types c.args.offset) c.locals.ensures.types in
    let made = made_carrying c.part_of.result c.args.instruction.now ops c.args.places.now c.in-Some.kind c.in-Some-peek.top c.value_type.result _ c.as_slice-operands.ensures.value one there c.value_type.ensures refl in
    c.number_of.ensures.number ∙ ap (number_of (made_landing (Some c.value_type.result) (take (length ops - 1) ops) c.in-Some.kind c.part_of.result)) c.landings.ensures.list ∙ sym (ap (number_in c.args.self.now.landings) made)
    ∙ ap (λ p. number_in c.args.self.now.landings (landing_of p c.args.instruction.now c.args.places.now)) part

pub returns-clause-few : goal.returns-clause-few
returns-clause-few c = c.number_of.ensures.few
