use Rattle.std.proofs.Common.{◌≡◌, List, [], ◌∷◌, Some, None, length, length-append, ap, sym, ◌∙◌, arith}
use Rattle.std.specs.Prelude.{slice_get}
use Rattle.std.specs.Option.{option_copied}
use Rattle.wasm_bytes.specs.declared.faults.ItemFault.TheVariants as faults
use Rattle.wasm_bytes.proofs.Loops.{in_front, one_more, no_more, left_fails}
use Rattle.dwarf_abbrev.specs.calls.Shared.{list_of}
use Rattle.dwarf_info.specs.declared.form.Slot.{Slot}
use Rattle.dwarf_info.specs.inner.Joined.{own_slots}
use Rattle.dwarf_info.specs.inner.Reading.{slot_value, own_item}
use Rattle.dwarf_info.specs.inner.Contexts.{seen}
use Rattle.dwarf_info.proofs.KeptLaws.{own_next, own_first, nothing, each_one, each_stops, each_none}
use Rattle.dwarf_info.proofs.entries.read_own.Goals as goal

pub slots-smaller : goal.slots-smaller
slots-smaller g c =
    let lists = c.args.lists.now in
    let e : slice_get (list_of lists c.slots.list) 0 ≡ Some c.in-Some.slot.now = sym c.first.ensures ∙ ap (λ o. option_copied o) c.in-Some.is in
    let on = own_next lists c.slots.list c.rest.result c.own_from-behind.result c.in-Some.slot.now c.slots.invariant.begins e c.rest.ensures c.own_from-behind.ensures.same in
    omega (arith, ap length on)

pub slots-preserved : goal.slots-preserved
unfolding own_item
slots-preserved g c =
    let f = slot_value (seen g.V.UnitVersion.version g.V.UnitVersion.looked c.args.context.now) in
    let lists = c.args.lists.now in
    let s = c.in-Some.slot.now in
    let e : slice_get (list_of lists c.slots.list) 0 ≡ Some s = sym c.first.ensures ∙ ap (λ o. option_copied o) c.in-Some.is in
    let is = own_next lists c.slots.list c.rest.result c.own_from-behind.result s c.slots.invariant.begins e c.rest.ensures c.own_from-behind.ensures.same in
    let left = own_slots (list_of lists c.own_from-behind.result) in
    let on = each_one f s left (own_slots (list_of lists c.slots.list)) c.slots.reader c.read_slot.new.reader c.in-Ok.value is c.in-Ok.ensures.item in
    record {
      so_far = rw c.in_ok-push-in-Ok.ensures.items (one_more _ _ c.slots.own.items c.in-Ok.value (rw on at c.slots.invariant.so_far));
      begins = c.own_from-behind.ensures.begins;
      count = omega (arith, c.slots.invariant.count, ap length is, ap length c.in_ok-push-in-Ok.ensures.items, length-append c.slots.own.items (c.in-Ok.value ∷ []));
      stays = grind arith;
    }

pub returns-in-Err-clause-item : goal.returns-in-Err-clause-item
unfolding own_item
returns-in-Err-clause-item g c =
    let f = slot_value (seen g.V.UnitVersion.version g.V.UnitVersion.looked c.args.context.now) in
    let lists = c.args.lists.now in
    let s = c.in-Some.slot.now in
    let e : slice_get (list_of lists c.slots.list) 0 ≡ Some s = sym c.first.ensures ∙ ap (λ o. option_copied o) c.in-Some.is in
    let is = own_first (list_of lists c.slots.list) s c.slots.invariant.begins e in
    let failing = each_stops f s _ (own_slots (list_of lists c.slots.list)) c.slots.reader c.in-Err.fault.at is c.in-Err.ensures.item in
    (left_fails _ _ (in_front c.slots.own.items) (faults.At c.in-Err.fault.at) c.slots.invariant.so_far failing)

pub returns-clause-count : goal.returns-clause-count
returns-clause-count g c =
    let lists = c.args.lists.now in
    let none : slice_get (list_of lists c.slots.list) 0 ≡ None = sym c.first.ensures ∙ ap (λ o. option_copied o) c.in_default.is in
    omega (arith, c.slots.invariant.count, ap (λ (xs : List Slot). length (own_slots xs)) (nothing (list_of lists c.slots.list) none), ap length c.from_vec.ensures)

pub returns-clause-item : goal.returns-clause-item
unfolding own_item
returns-clause-item g c =
    let f = slot_value (seen g.V.UnitVersion.version g.V.UnitVersion.looked c.args.context.now) in
    let lists = c.args.lists.now in
    let none : slice_get (list_of lists c.slots.list) 0 ≡ None = sym c.first.ensures ∙ ap (λ o. option_copied o) c.in_default.is in
    let done = each_none f (own_slots (list_of lists c.slots.list)) c.slots.reader (ap own_slots (nothing (list_of lists c.slots.list) none)) in
    rw c.from_vec.ensures (no_more _ c.slots.own.items c.slots.reader (rw done at c.slots.invariant.so_far))
