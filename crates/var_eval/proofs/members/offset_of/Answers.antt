use Rattle.std.proofs.Common.{◌≡◌, ◌∙◌, ap, arith}
use Rattle.std.proofs.lemmas.Int.{ints}
use Rattle.var_values.specs.Places.{Place}
use Rattle.var_values.specs.Members.{part_at}
use Rattle.var_eval.proofs.Places.{place_told}
use Rattle.var_eval.proofs.members.offset_of.Goals as goal

pub returns : goal.returns
returns c =
    let is = c.in_ok-place.ensures.is ∙ ap (λ (p : Place). part_at p c.args.member.now) c.place.ensures.same in
    let offset : c.place-2.inside.offset ≡ c.in_ok-place.place.offset = ap (λ (p : Place). p.offset) c.place-2.view_is in
    place_told c.args.spot.now c.in_ok-place.place c.args.member.now _ _ is (omega (arith, ints)) (ap (λ (p : Place). p.bits) c.place-2.view_is)
