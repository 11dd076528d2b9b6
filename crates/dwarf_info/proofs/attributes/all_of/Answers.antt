use Rattle.std.proofs.Common.{◌≡◌, ◌<◌, ℕ, List, ◌∷◌, ◌++◌, drop, length, Some, None, sym, ap, ◌∙◌, arith}
use Rattle.std.specs.Prelude.{slice_get}
use Rattle.std.specs.Option.{option_copied}
use Rattle.std.proofs.lemmas.List.{append-nil}
use Rattle.dwarf_abbrev.specs.calls.Shared.{list_of}
use Rattle.dwarf_info.specs.declared.form.Slot.{Slot}
use Rattle.dwarf_info.specs.declared.entry.Attribute.{Attribute}
use Rattle.dwarf_info.specs.Values.{attribute_of}
use Rattle.dwarf_info.specs.inner.Joined.{joined, held, counted, value_at}
use Rattle.dwarf_info.proofs.JoinedLaws.{snoc_append, joined_on, joined_ends, count_low}
use Rattle.dwarf_info.proofs.KeptLaws.{split, nothing}
use Rattle.dwarf_info.proofs.attributes.all_of.Goals as goal

pub counted-count-requires : goal.counted-count-requires
counted-count-requires c = λ takes.
    let own = c.args.own.now in
    let s = c.in-Some.slot.now in
    let k = c.slots.count in
    let there : value_at own (held s.form k) ≡ Some c.in-Some-value_at.value = ap (value_at own) (sym c.held.ensures) ∙ sym c.value_at.ensures ∙ c.in-Some-value_at.is in
    let low : k < length own = count_low s own k c.in-Some-value_at.value there takes in
    omega (arith, low)

pub slots-smaller : goal.slots-smaller
slots-smaller c =
    let xs = list_of c.args.lists.now c.slots.list in
    let e : slice_get xs 0 ≡ Some c.in-Some.slot.now = sym c.first.ensures ∙ ap (λ o. option_copied o) c.in-Some.is in
    omega (arith, ap length (split xs c.in-Some.slot.now e), ap length c.rest-list.ensures)

pub slots-preserved : goal.slots-preserved
slots-preserved c =
    let own = c.args.own.now in
    let k = c.slots.count in
    let s = c.in-Some.slot.now in
    let xs = list_of c.args.lists.now c.slots.list in
    let rest = drop 1 xs in
    let e : slice_get xs 0 ≡ Some s = sym c.first.ensures ∙ ap (λ o. option_copied o) c.in-Some.is in
    let front : xs ≡ s ∷ rest = split xs s e in
    let there : value_at own (held s.form k) ≡ Some c.in-Some-value_at.value = ap (value_at own) (sym c.held.ensures) ∙ sym c.value_at.ensures ∙ c.in-Some-value_at.is in
    ap (λ (more : List Attribute). more ++ joined (list_of c.args.lists.now c.rest-list.result) (drop c.counted-count.result own)) c.in_ok-push.ensures.ok
    ∙ snoc_append c.slots.all (attribute_of s c.in-Some-value_at.value) (joined (list_of c.args.lists.now c.rest-list.result) (drop c.counted-count.result own))
    ∙ ap (λ (j : ℕ). c.slots.all ++ (attribute_of s c.in-Some-value_at.value ∷ joined (list_of c.args.lists.now c.rest-list.result) (drop j own))) c.counted-count.ensures
    ∙ ap (λ (ss : List Slot). c.slots.all ++ (attribute_of s c.in-Some-value_at.value ∷ joined ss (drop (counted s k) own))) c.rest-list.ensures
    ∙ ap (λ (more : List Attribute). c.slots.all ++ more) (sym (joined_on s rest own k c.in-Some-value_at.value there))
    ∙ ap (λ (ss : List Slot). c.slots.all ++ joined ss (drop k own)) (sym front)
    ∙ c.slots.invariant

pub returns-in_default-value_at : goal.returns-in_default-value_at
returns-in_default-value_at c =
    let own = c.args.own.now in
    let k = c.slots.count in
    let s = c.in-Some.slot.now in
    let xs = list_of c.args.lists.now c.slots.list in
    let rest = drop 1 xs in
    let e : slice_get xs 0 ≡ Some s = sym c.first.ensures ∙ ap (λ o. option_copied o) c.in-Some.is in
    let front : xs ≡ s ∷ rest = split xs s e in
    let none : value_at own (held s.form k) ≡ None = ap (value_at own) (sym c.held.ensures) ∙ sym c.value_at.ensures ∙ c.in_default-value_at.is in
    sym (append-nil c.slots.all) ∙ ap (λ (more : List Attribute). c.slots.all ++ more) (sym (joined_ends s rest own k none)) ∙ ap (λ (ss : List Slot). c.slots.all ++ joined ss (drop k own)) (sym front)
    ∙ c.slots.invariant

pub returns : goal.returns
returns c =
    let xs = list_of c.args.lists.now c.slots.list in
    let none : slice_get xs 0 ≡ None = sym c.first.ensures ∙ ap (λ o. option_copied o) c.in_default.is in
    sym (append-nil c.slots.all) ∙ ap (λ (ss : List Slot). c.slots.all ++ joined ss (drop c.slots.count c.args.own.now)) (sym (nothing xs none)) ∙ c.slots.invariant
