use Rattle.std.proofs.Common.{◌≡◌, ℕ, [], Option, None, length, replicate, sym, ap, ◌∙◌}
use Rattle.std.proofs.lemmas.List.{length-replicate}
use Rattle.index_map.proofs.Places.{begun, table_kept, all_met}
use Rattle.index_map.proofs.used.used_types.Goals as goal

pub returns : goal.returns
returns c =
    let made = c.in_ok-places.places.items in
    let left = c.meet_bodies.new.places in
    let shown : c.deref_mut.result.now ≡ replicate c.len.result None = c.deref_mut.ensures.value ∙ c.in_ok-places.ensures in
    let same : length left ≡ length made = c.meet_bodies.auto.places ∙ ap length c.deref_mut.ensures.value in
    let kept = table_kept made left c.in_ok-places.places.len same (sym c.deref_mut.ensures.len ∙ ap length c.deref_mut.ensures.value) in
    let count : length left ≡ length c.args.parts.now.types = same ∙ ap length c.in_ok-places.ensures ∙ length-replicate {A = Option ℕ} c.len.result None ∙ c.len.ensures in
    all_met c.args.parts.now c.as_slice.result.now c.meet_bodies.new.met.items c.from_vec.result left c.from_vec-2.result c.as_slice.ensures (c.from_vec.ensures ∙ c.reverse.ensures.items) (c.from_vec-2.ensures ∙ kept) count
    (c.in_ok-meet_bodies.ensures [] (begun c.len.result c.new-met.result.items c.deref_mut.result.now c.new-met.ensures.items shown))
