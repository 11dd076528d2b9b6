use Rattle.std.proofs.Common.{◌≡◌, sym, ap, ◌∙◌, option_map}
use Rattle.rewrite_bodies.specs.calls.Slots.{result_place}
use Rattle.rewrite_code.specs.calls.Places.{place}
use Rattle.unwind_rewrite.proofs.NodeLaws.{performed}
use Rattle.unwind_rewrite.proofs.instructions.write_basic.Goals as goal

pub returns : goal.returns
returns c =
    let C = c.args.context.now in
    let i = c.args.basic in
    let gives : option_map place c.result_place-gives.result ≡ result_place C c.places.result.now i = c.result_place-gives.ensures C (sym c.locals.ensures.types) (sym c.requires.source) in
    let given : option_map place c.result_place-gives.result ≡ result_place C c.args.walk.now.places i = gives ∙ ap (λ es. result_place C es i) c.places.ensures in
    performed C c.args.passing c.args.offset i c.args.walk.now c.perform_basic.new.self c.places-2.result.now c.depth-labels.result c.places-2.ensures c.depth-labels.ensures (c.in_ok-perform_basic.ensures C (sym c.takes-taken.ensures) given)
    (c.in_ok-instruction.ensures (sym c.takes-taken.ensures) (ap (λ es. result_place C es i) c.places-2.ensures ∙ sym given))
