use Rattle.std.proofs.Common.{◌≡◌, List, Some, None, sym, ap, ◌∙◌}
use Rattle.std.specs.Prelude.{slice_get}
use Rattle.std.specs.Option.{option_copied}
use Rattle.dwarf_abbrev.specs.calls.Shared.{list_of}
use Rattle.dwarf_info.specs.declared.form.Slot.{Slot}
use Rattle.dwarf_info.specs.inner.Joined.{own_slots}
use Rattle.dwarf_info.proofs.KeptLaws.{from_same, from_begins, from_inside, none_kept}
use Rattle.dwarf_info.proofs.slots.own_from.Goals as goal

pub returns-in-Some-clause-same : goal.returns-in-Some-clause-same
returns-in-Some-clause-same c =
    let e : slice_get (list_of c.args.kept.now c.args.list) 0 ≡ Some c.in-Some.first.now = sym c.first.ensures ∙ ap (λ o. option_copied o) c.in-Some.is in
    from_same c.args.kept.now c.requires.kept c.args.list c.in-Some.first.now e c.own_number.result c.own_number.ensures

pub returns-in-Some-clause-begins : goal.returns-in-Some-clause-begins
returns-in-Some-clause-begins c =
    let e : slice_get (list_of c.args.kept.now c.args.list) 0 ≡ Some c.in-Some.first.now = sym c.first.ensures ∙ ap (λ o. option_copied o) c.in-Some.is in
    from_begins c.args.kept.now c.requires.kept c.args.list c.in-Some.first.now e c.own_number.result c.own_number.ensures

pub returns-in-Some-clause-there : goal.returns-in-Some-clause-there
returns-in-Some-clause-there c =
    let e : slice_get (list_of c.args.kept.now c.args.list) 0 ≡ Some c.in-Some.first.now = sym c.first.ensures ∙ ap (λ o. option_copied o) c.in-Some.is in
    from_inside c.args.kept.now c.requires.kept c.args.list c.in-Some.first.now e c.own_number.result c.own_number.ensures

pub returns-in-None-clause-same : goal.returns-in-None-clause-same
returns-in-None-clause-same c =
    let e : slice_get (list_of c.args.kept.now c.args.list) 0 ≡ None = sym c.first.ensures ∙ ap (λ o. option_copied o) c.in-None.is in
    ap (λ (xs : List Slot). own_slots xs) (sym (none_kept c.args.kept.now c.requires.kept c.args.list e))
