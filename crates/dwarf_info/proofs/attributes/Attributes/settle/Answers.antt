use Rattle.std.proofs.Common.{◌≡◌, ℕ, Bool, List, ◌++◌, length, drop, take, map, sym, ap, ◌∙◌, arith}
use Rattle.std.proofs.lemmas.List.{length-map, take_at}
use Rattle.dwarf_info.specs.declared.entry.AttrValue.{AttrValue}
use Rattle.dwarf_info.specs.inner.Settling.{placed, meets, settled_by, attribute_by}
use Rattle.dwarf_info.specs.inner.Joined.{joined}
use Rattle.dwarf_info.proofs.JoinedLaws.{joined_settled}
use Rattle.dwarf_info.proofs.attributes.Attributes.settle.Goals as goal

-- what a vector holds whose values were settled where they are
held_now : (m : ℕ → Bool) (xs ys : List AttrValue) (n : ℕ) → ys ≡ map (settled_by m) xs → n ≡ length xs → take n (ys ++ drop (length ys) xs) ≡ map (settled_by m) xs
held_now m xs ys n e size = take_at ys (drop (length ys) xs) n (omega (arith, ap length e, length-map xs (settled_by m), size)) ∙ e

pub returns : goal.returns
returns c =
    let m = meets (placed c.args.places.now) in
    let own = c.self.inside.own in
    let e : c.settle_values.new.values ≡ map (settled_by m) own.items = c.settle_values.ensures ∙ ap (map (settled_by m)) c.as_mut_slice.ensures.value in
    ap (joined c.self.inside.slots) (held_now m own.items c.settle_values.new.values own.len e (omega (arith, own.ok.0))) ∙ sym (joined_settled m c.self.inside.slots own.items) ∙ ap (map (attribute_by m)) c.self.view_is

pub invariant_of-self : goal.invariant_of-self
invariant_of-self c =
    let m = meets (placed c.args.places.now) in
    let own = c.self.inside.own in
    let e : c.settle_values.new.values ≡ map (settled_by m) own.items = c.settle_values.ensures ∙ ap (map (settled_by m)) c.as_mut_slice.ensures.value in
    ap length (held_now m own.items c.settle_values.new.values own.len e (omega (arith, own.ok.0))) ∙ length-map own.items (settled_by m) ∙ c.self.invariant
