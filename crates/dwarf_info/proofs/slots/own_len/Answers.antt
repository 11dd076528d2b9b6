use Rattle.std.proofs.Common.{◌≡◌, List, Some, None, length, sym, ap, ◌∙◌}
use Rattle.std.specs.Prelude.{slice_get}
use Rattle.std.specs.Option.{option_copied}
use Rattle.dwarf_abbrev.specs.calls.Shared.{list_of}
use Rattle.dwarf_info.specs.declared.form.Slot.{Slot}
use Rattle.dwarf_info.specs.inner.Joined.{own_slots}
use Rattle.dwarf_info.proofs.KeptLaws.{own_count, none_kept}
use Rattle.dwarf_info.proofs.slots.own_len.Goals as goal

pub returns-in-Some : goal.returns-in-Some
returns-in-Some c =
    let e : slice_get (list_of c.args.kept.now c.args.list) 0 ≡ Some c.in-Some.first.now = sym c.first.ensures ∙ ap (λ o. option_copied o) c.in-Some.is in
    own_count c.args.kept.now c.requires.kept c.args.list c.in-Some.first.now e

pub returns-in-None : goal.returns-in-None
returns-in-None c =
    let e : slice_get (list_of c.args.kept.now c.args.list) 0 ≡ None = sym c.first.ensures ∙ ap (λ o. option_copied o) c.in-None.is in
    ap (λ (xs : List Slot). length (own_slots xs)) (sym (none_kept c.args.kept.now c.requires.kept c.args.list e))
