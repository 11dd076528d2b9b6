use Rattle.std.proofs.Common.{rules, ◌≡◌, ◌∙◌, ◌-◌, length, ap, ap₂}
use Rattle.rewrite_bodies.specs.calls.Landings.{number_of, part_of, landing_behind}
use Rattle.rewrite_bodies.specs.calls.Slots.{less}
use Rattle.rewrite_code.proofs.Same.{made_behind}
use Rattle.rewrite_code.proofs.context.FunctionContext.landing_behind.Goals as goal

pub returns-clause-number : goal.returns-clause-number
returns-clause-number c =
    let ops = c.as_slice-operands.result.now in
    let left : c.saturating_sub-left.result ≡ length ops - c.args.taken = search rules in
    let part = c.part_of.ensures ∙ ap (λ types. part_of types c.args.offset) c.locals.ensures.types in
    let made = made_behind c.part_of.result ops c.args.places.now c.args.taken c.saturating_sub-left.result c.as_slice-operands.ensures.value left ∙ ap (λ p. landing_behind p (less c.args.taken c.args.places.now)) part in
    c.number_of.ensures.number ∙ ap₂ number_of made c.landings.ensures.list

pub returns-clause-few : goal.returns-clause-few
returns-clause-few c = c.number_of.ensures.few
