use Rattle.std.proofs.Common.{◌≡◌, drop, length, map, ap, ◌∙◌, arith}
use Rattle.std.proofs.lemmas.List.{length-map, take_at}
use Rattle.rewrite_bodies.specs.calls.Slots.{uncopied, without}
use Rattle.rewrite_code.specs.calls.Places.{place, from_top, these}
use Rattle.rewrite_code.proofs.Copying.{uncopied_places}
use Rattle.rewrite_code.proofs.place.OperandPlaces.uncopy.Goals as goal

pub returns : goal.returns
returns c =
    let f = uncopied (these c.args.meant) in
    let xs = c.self.inside.items.items in
    let ys = c.uncopy_all.new.operands in
    let e : map place ys ≡ map f (map place xs) = c.uncopy_all.ensures ∙ ap (λ zs. map f (map place zs)) c.as_mut_slice.ensures.value in
    let size : length ys ≡ c.self.inside.items.len = omega (arith, ap length e, length-map ys place, length-map (map place xs) f, length-map xs place, c.self.inside.items.ok.0) in
    ap from_top (take_at ys (drop (length ys) xs) c.self.inside.items.len size) ∙ uncopied_places (these c.args.meant) xs ys e ∙ ap (without (these c.args.meant)) c.self.view_is
