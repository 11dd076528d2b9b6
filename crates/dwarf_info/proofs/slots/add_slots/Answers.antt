use Rattle.std.proofs.Common.{◌≡◌, ◌+◌, ◌-◌, ◌<◌, ℕ, List, [], ◌∷◌, drop, length, length-append, sym, ap, ◌∙◌, arith}
use Rattle.std.proofs.lemmas.List.{drop_all}
use Rattle.dwarf_abbrev.specs.calls.Shared.{list_of}
use Rattle.dwarf_abbrev.proofs.LinkLaws.{list_last}
use Rattle.dwarf_bytes.proofs.Loops.{next}
use Rattle.dwarf_info.specs.declared.form.Slot.{Slot}
use Rattle.dwarf_info.proofs.slots.add_slots.Goals as goal

pub slots-init : goal.slots-init
slots-init c = record {
  made = sym (drop_all (length c.args.slots.now) c.args.slots.now (omega arith));
  there = omega arith;
  inside = omega arith;
}

pub slots-preserved : goal.slots-preserved
slots-preserved c =
    let slots = c.args.slots.now in
    let before = c.slots.lists in
    let s = c.index-slots-left.result in
    let k = c.slots.left - 1 in
    let lt : k < length slots = omega (arith, c.slots.invariant.inside, c.slots-test.true) in
    let one : c.slots.left ≡ k + 1 = omega (arith, c.slots-test.true) in
    let made = c.copied.result ∷ list_of before c.slots.list in
    record {
      made =
          ap (λ (ls : List (List Slot)). list_of ls c.in_ok-list.list) c.in_ok-list.ensures.made ∙ list_last before made c.in_ok-list.list c.in_ok-list.ensures.number
          ∙ ap (λ (x : Slot). x ∷ list_of before c.slots.list) c.copied.ensures ∙ ap (λ (xs : List Slot). s ∷ xs) c.slots.invariant.made
          ∙ ap (λ (n : ℕ). s ∷ drop n slots) one ∙ sym (next slots k s lt c.index-slots-left.is);
      there = omega (arith, c.in_ok-list.ensures.number, ap length c.in_ok-list.ensures.made, length-append before (made ∷ []));
      inside = omega (arith, c.slots.invariant.inside);
    }
