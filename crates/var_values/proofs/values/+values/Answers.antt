use Rattle.std.proofs.Common.{◌≡◌, ℕ, ◌<◌, ◌≤◌, ◌-◌, ◌++◌, List, Option, None, Some, append_assoc, length, subst, sym, ap, ◌∙◌, arith}
use Rattle.std.specs.Prelude.{IfOk, unwrap_or}
use Rattle.dwarf_types.specs.Counts.{counts}
use Rattle.dwarf_types.specs.Types.{class_at, type_of}
use Rattle.dwarf_types.specs.Sizes.{type_size}
use Rattle.dwarf_types.specs.declared.behind.Typed.{Typed}
use Rattle.dwarf_types.specs.declared.class.Class.TheVariants as classes
use Rattle.var_values.specs.declared.mark.Mark.TheVariants.{TypeTooDeep, UnsupportedType}
use Rattle.var_values.specs.Values.{Text, in_place, item_text, value_text}
use Rattle.var_values.specs.calls.Told.{Tells}
use Rattle.var_values.specs.inner.Parts.{inner_size, element_text}
use Rattle.var_values.specs.inner.Odometer.{rows_left, step_left, step_of}
use Rattle.var_values.specs.Places.{Place}
use Rattle.var_values.proofs.ValueLaws.{nothing_tells, deep_tells, passed_is, sized_is, mark_tells, item_joined}
use Rattle.var_values.proofs.ArrayLaws.{rows_none, rows_tell, array_known, size_known}
use Rattle.var_values.proofs.BehindLaws.{behind_nested, behind_fits}
use Rattle.var_values.proofs.LevelLaws.{counted}
use Rattle.var_values.proofs.ScalarLaws.{suits_scalar, suits_narrow}
use Rattle.var_values.proofs.values.+values.Goals as goal

pub push_within-returns-in_default : goal.push_within-returns-in_default
push_within-returns-in_default t c =
    subst (λ (x : Typed). Tells (value_text c.args.context.now.units.now c.args.context.now.view.now.memory c.args.most x c.args.place.now) (Some UnsupportedType) c.args.text.now c.args.text.now) (sym c.in_default.is)
    (nothing_tells c.args.context.now.units.now c.args.context.now.view.now.memory c.args.most c.args.place.now c.args.text.now)

pub push_within-returns-then-most-eq0 : goal.push_within-returns-then-most-eq0
push_within-returns-then-most-eq0 t c =
    subst (λ (x : Typed). Tells (value_text c.args.context.now.units.now c.args.context.now.view.now.memory c.args.most x c.args.place.now) (Some TypeTooDeep) c.args.text.now c.args.text.now) (sym c.in-At.is)
    (deep_tells c.args.context.now.units.now c.args.context.now.view.now.memory c.args.most c.in-At.standing c.in-At.skipped c.args.place.now c.args.text.now c.if-most-eq0.true)

pub push_within-returns-in-Passed : goal.push_within-returns-in-Passed
push_within-returns-in-Passed t c =
    let units = c.args.context.now.units.now in
    let m = c.args.context.now.view.now.memory in
    let p = c.args.place.now in
    let some : 0 < c.args.most = omega arith in
    let class : class_at c.in-At.standing ≡ classes.Passed = sym c.class_at.ensures ∙ c.in-Passed.is in
    let is : value_text units m c.args.most c.args.typed.now p ≡ value_text units m (c.args.most - 1) c.inner_type-next.result p =
    ap (λ (x : Typed). value_text units m c.args.most x p) c.in-At.is ∙ passed_is units m c.args.most c.in-At.standing c.in-At.skipped p some class
    ∙ ap (λ (x : Typed). value_text units m (c.args.most - 1) x p) (sym c.inner_type-next.ensures) in
    subst (λ (v : Text). IfOk c.push_within.result (λ mark. Tells v mark c.args.text.now c.push_within.new.text)) (sym is) c.push_within.ensures

pub push_known-returns-then-count-skipped : goal.push_known-returns-then-count-skipped
push_known-returns-then-count-skipped t c =
    let value = value_text c.args.context.now.units.now c.args.context.now.view.now.memory c.args.further c.args.element.now in
    let past : length c.args.array.now.counts ≤ c.args.skipped = omega (arith, c.len-count.ensures, c.if-count-skipped.true) in
    subst (λ (v : Text). IfOk c.push_within.result (λ mark. Tells v mark c.args.text.now c.push_within.new.text)) (sym (rows_none value c.args.array.now c.args.skipped c.args.place.now past)) c.push_within.ensures

pub push_rows-push_in_place-requires : goal.push_rows-push_in_place-requires
push_rows-push_in_place-requires t c = (omega arith, c.place_on-there.ensures.near c.args.further c.requires.near)

pub push_rows-elements-preserved : goal.push_rows-elements-preserved
push_rows-elements-preserved t c =
    let item = element_text c.args.context.now.units.now c.args.context.now.view.now.memory c.args.further c.args.element.now c.args.place.now in
    let a = c.args.array.now in
    let keeps = subst (λ (o : Option ℕ). c.elements.text ++ rows_left item a c.elements.rows ≡ c.next.new.text ++ step_left item a (step_of o) c.next.new.self) c.in-Some.is (c.in_ok-at.ensures.keeps item) in
    let written : c.push_in_place.new.text ≡ c.next.new.text ++ item c.in-Some.at =
    c.in_ok-push_in_place.ensures
    ∙ ap (λ (q : Place). c.next.new.text ++ in_place (value_text c.args.context.now.units.now c.args.context.now.view.now.memory c.args.further c.args.element.now q)) c.place_on-there.ensures.is in
    record {
      sound = c.in_ok-at.ensures.sound;
      rest =
          ap (λ (s : List ℕ). s ++ rows_left item a c.next.new.self) written ∙ append_assoc c.next.new.text (item c.in-Some.at) (rows_left item a c.next.new.self)
          ∙ sym keeps ∙ c.elements.invariant.rest;
    }

pub push_known-push_rows-requires : goal.push_known-push_rows-requires
push_known-push_rows-requires t c =
    let nested = behind_nested c.args.array.now c.args.skipped c.requires.size in
    let fits = behind_fits c.args.array.now c.args.skipped c.requires.size in
    (omega arith, (c.requires.near, (nested, fits)))

pub push_known-returns : goal.push_known-returns
push_known-returns t c =
    let value = value_text c.args.context.now.units.now c.args.context.now.view.now.memory c.args.further c.args.element.now in
    let some : c.args.skipped < length c.args.array.now.counts = omega (arith, c.len-count.ensures, c.if-count-skipped.false) in
    rows_tell value c.args.array.now c.args.skipped c.args.place.now c.args.text.now c.push_rows.new.text some c.requires.size c.in_ok-push_rows.ensures

pub push_array-push_known-requires : goal.push_array-push_known-requires
push_array-push_known-requires t c =
    let units = c.args.context.now.units.now in
    let s = c.args.standing.now in
    let sized = c.unwrap_or-size.ensures ∙ ap (λ (o : Option ℕ). unwrap_or o 0) (c.type_size.ensures ∙ ap (type_size units) c.inner_type-element.ensures) in
    let size = size_known c.in-Some.array.now (counts s) c.args.skipped (inner_size units s) c.in-Some.ensures.counts (c.in-Some.ensures.element ∙ sized) (counted units s c.args.skipped c.requires.class c.requires.size) in
    (omega arith, (c.requires.near, size))

pub push_array-returns-in-Some : goal.push_array-returns-in-Some
push_array-returns-in-Some t c =
    let units = c.args.context.now.units.now in
    let m = c.args.context.now.view.now.memory in
    let s = c.args.standing.now in
    let sized = c.unwrap_or-size.ensures ∙ ap (λ (o : Option ℕ). unwrap_or o 0) (c.type_size.ensures ∙ ap (type_size units) c.inner_type-element.ensures) in
    let p = c.args.place.now in
    subst (λ (v : Text). IfOk c.push_known.result (λ mark. Tells v mark c.args.text.now c.push_known.new.text))
    (array_known (value_text units m c.args.further) c.inner_type-element.result (type_of units s.entry.attributes) c.in-Some.array.now (counts s) c.args.skipped (inner_size units s) p
    c.inner_type-element.ensures c.in-Some.ensures.counts (c.in-Some.ensures.element ∙ sized))
    c.push_known.ensures

pub push_array-push_known-pushed-requires : goal.push_array-push_known-pushed-requires
push_array-push_known-pushed-requires t c =
    let units = c.args.context.now.units.now in
    let s = c.args.standing.now in
    let sized = c.unwrap_or-size.ensures ∙ ap (λ (o : Option ℕ). unwrap_or o 0) (c.type_size.ensures ∙ ap (type_size units) c.inner_type-element.ensures) in
    let size = size_known c.in_ok-array.array (counts s) c.args.skipped (inner_size units s) (c.in_ok-array.ensures.counts ∙ ap counts c.standing.ensures) (c.in_ok-array.ensures.element ∙ sized) (counted units s c.args.skipped c.requires.class c.requires.size) in
    (omega arith, (c.requires.near, size))

pub push_array-returns : goal.push_array-returns
push_array-returns t c =
    let units = c.args.context.now.units.now in
    let m = c.args.context.now.view.now.memory in
    let s = c.args.standing.now in
    let sized = c.unwrap_or-size.ensures ∙ ap (λ (o : Option ℕ). unwrap_or o 0) (c.type_size.ensures ∙ ap (type_size units) c.inner_type-element.ensures) in
    let p = c.args.place.now in
    subst (λ (v : Text). IfOk c.push_known-pushed.result (λ mark. Tells v mark c.args.text.now c.push_known-pushed.new.text))
    (array_known (value_text units m c.args.further) c.inner_type-element.result (type_of units s.entry.attributes) c.in_ok-array.array (counts s) c.args.skipped (inner_size units s) p
    c.inner_type-element.ensures (c.in_ok-array.ensures.counts ∙ ap counts c.standing.ensures) (c.in_ok-array.ensures.element ∙ sized))
    c.push_known-pushed.ensures

pub push_content-push_scalar-requires-clause-scalar : goal.push_content-push_scalar-requires-clause-scalar
push_content-push_scalar-requires-clause-scalar t c =
    suits_scalar c.args.context.now.units.now c.args.standing.now c.args.skipped c.args.size c.args.place.now c.requires.size c.requires.suits
    (λ e. c.in_default.not-Members (c.class_at.ensures ∙ e)) (λ e. c.in_default.not-Array (c.class_at.ensures ∙ e))

pub push_content-push_scalar-requires-clause-narrow : goal.push_content-push_scalar-requires-clause-narrow
push_content-push_scalar-requires-clause-narrow t c = suits_narrow c.args.standing.now c.args.place.now c.args.size c.requires.suits

pub push_within-returns : goal.push_within-returns
push_within-returns t c =
    let units = c.args.context.now.units.now in
    let m = c.args.context.now.view.now.memory in
    let p = c.args.place.now in
    let some : 0 < c.args.most = omega arith in
    let is = sized_is units m c.args.most c.args.typed.now c.in-At.standing c.in-At.skipped p (Some c.in-Some.size) c.in-At.is some (λ e. c.in_default-class_at.not-Passed (c.class_at.ensures ∙ e)) (sym c.in-Some.is ∙ c.type_size.ensures) in
    subst (λ (v : Text). IfOk c.push_sized.result (λ mark. Tells v mark c.args.text.now c.push_sized.new.text)) (sym is) c.push_sized.ensures

pub push_within-returns-in_default-type_size : goal.push_within-returns-in_default-type_size
push_within-returns-in_default-type_size t c =
    let units = c.args.context.now.units.now in
    let m = c.args.context.now.view.now.memory in
    let p = c.args.place.now in
    let some : 0 < c.args.most = omega arith in
    mark_tells (value_text units m c.args.most c.args.typed.now p) UnsupportedType c.args.text.now
    (sized_is units m c.args.most c.args.typed.now c.in-At.standing c.in-At.skipped p None c.in-At.is some (λ e. c.in_default-class_at.not-Passed (c.class_at.ensures ∙ e)) (sym c.in_default-type_size.is ∙ c.type_size.ensures))

pub push_members-loop-item-preserved : goal.push_members-loop-item-preserved
push_members-loop-item-preserved t c =
    let units = c.args.context.now.units.now in
    let m = c.args.context.now.view.now.memory in
    item_joined (item_text units (value_text units m c.args.further) c.args.place.now) c.as_slice-entries.result.now c.loop-item.item-index c.item-item.result c.loop-item.text c.push_separator.new.text c.push_item.new.text _
    c.loop-item.is_first c.loop-item-test.true c.item-item.is c.in_ok-push_separator.ensures c.in_ok-push_item.ensures c.loop-item.invariant
