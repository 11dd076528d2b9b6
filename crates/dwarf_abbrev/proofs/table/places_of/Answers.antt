use Rattle.std.proofs.Common.{◌+◌, take, sym, subst, ◌∙◌}
use Rattle.std.specs.Ordering.{nat_cmp}
use Rattle.std.specs.BTreeMap.{get}
use Rattle.dwarf_abbrev.specs.calls.Places.{IsPlaced}
use Rattle.dwarf_abbrev.proofs.Places.{known_next, new_next}
use Rattle.dwarf_abbrev.proofs.table.places_of.Goals as goal
use Rattle.dwarf_abbrev.proofs.table.places_of.Goals.{then-not-contains_key+in_ok-insert, else-not-contains_key}

pub items-preserved : goal.items-preserved
items-preserved g c = elim c.if-not-contains_key.branch [
  | then-not-contains_key+in_ok-insert w ↦
      let code = g.T.Coded.code in
      let next = new_next code c.args.items.now c.items.place c.index-items-place.result c.code-code.result (get nat_cmp c.items.places) (get nat_cmp w.insert.new.self) c.items-test.true c.index-items-place.is c.code-code.ensures c.items.invariant (sym c.contains_key.ensures ∙ w.if-not-contains_key.true) w.in_ok-insert.ensures.updates.0 in
      subst (λ m. IsPlaced code (take (c.items.place + 1) c.args.items.now) (get nat_cmp m)) (sym w.places-is) next
  | else-not-contains_key w ↦
      let code = g.T.Coded.code in
      let next = known_next code c.args.items.now c.items.place c.index-items-place.result c.code-code.result (get nat_cmp c.items.places) c.items-test.true c.index-items-place.is c.code-code.ensures c.items.invariant (sym c.contains_key.ensures ∙ w.if-not-contains_key.false) in
      subst (λ m. IsPlaced code (take (c.items.place + 1) c.args.items.now) (get nat_cmp m)) (sym w.places-is) next
]
