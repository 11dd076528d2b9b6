use Rattle.std.proofs.Common.{◌≡◌, length, drop, map, ap, ◌∙◌, arith}
use Rattle.std.proofs.lemmas.List.{length-map, take_at}
use Rattle.dwarf_info.specs.inner.Settling.{placed, meets, entry_by}
use Rattle.dwarf_info.proofs.settle.settled_entries.Goals as goal

pub returns : goal.returns
returns c =
    let f = entry_by (meets (placed c.args.places.now)) in
    let kept = c.into_vec-kept.result in
    let ys = c.settle_entries.new.entries in
    let e : ys ≡ map f kept.items = c.settle_entries.ensures ∙ ap (map f) c.as_mut_slice.ensures.value in
    let size : length ys ≡ kept.len = omega (arith, ap length e, length-map kept.items f, kept.ok.0) in
    c.from_vec.ensures ∙ take_at ys (drop (length ys) kept.items) kept.len size ∙ e ∙ ap (map f) c.into_vec-kept.ensures
