use Rattle.std.proofs.Common.{◌∙◌, ap, sym, refl, option_map}
use Rattle.rewrite_bodies.specs.calls.Landings.{with_some}
use Rattle.rewrite_code.specs.calls.Places.{place}
use Rattle.rewrite_code.proofs.Loads.{when_ok}
use Rattle.rewrite_code.proofs.Same.{made_carrying}
use Rattle.rewrite_code.proofs.landing.Landings.note_guard.Goals as goal

pub returns : goal.returns
returns c =
    let ops = c.as_slice-operands.result.now in
    let one = sym c.one_kind.ensures ∙ c.in-Some.is in
    let there = sym (ap (λ o. option_map place o) c.in-Some-peek.is) ∙ c.peek.ensures in
    let made = made_carrying c.args.part c.args.instruction.now ops c.args.places.now c.in-Some.kind c.in-Some-peek.top c.value_type.result _ c.as_slice-operands.ensures.value one there c.value_type.ensures refl in
    when_ok (λ e. e ∙ sym (ap (λ x. with_some x c.args.self.now) made)) c.note.result c.note.ensures
