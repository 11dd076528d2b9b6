use Rattle.std.proofs.Common.{◌≡◌, Some, None, sym, ap, ◌∙◌}
use Rattle.std.specs.Prelude.{◌==◌, find}
use Rattle.std.specs.Option.{option_copied}
use Rattle.dwarf_abbrev.specs.calls.Shared.{list_of}
use Rattle.dwarf_info.specs.declared.slots.SlotPlace.{SlotPlace}
use Rattle.dwarf_info.proofs.KeptLaws.{place_found, place_low, place_none}
use Rattle.dwarf_info.proofs.slots.place_in.Goals as goal

pub returns-in-Some : goal.returns-in-Some
returns-in-Some c =
    let e : find (λ x. x.slot.attribute == c.args.name) (list_of c.args.kept.now c.args.list) ≡ Some c.in-Some.found.now = sym c.find.ensures ∙ ap (λ o. option_copied o) c.in-Some.is in
    ap (λ (x : SlotPlace). Some x) c.held.ensures ∙ place_found c.args.kept.now c.requires.kept c.args.name c.args.list c.own_len-len.result c.own_len-len.ensures c.in-Some.found.now e

pub overflow_sub-len : goal.overflow_sub-len
overflow_sub-len c =
    let e : find (λ x. x.slot.attribute == c.args.name) (list_of c.args.kept.now c.args.list) ≡ Some c.in-Some.found.now = sym c.find.ensures ∙ ap (λ o. option_copied o) c.in-Some.is in
    place_low c.args.kept.now c.requires.kept c.args.name c.args.list c.own_len-len.result c.own_len-len.ensures c.in-Some.found.now e

pub returns-in-None : goal.returns-in-None
returns-in-None c =
    let e : find (λ x. x.slot.attribute == c.args.name) (list_of c.args.kept.now c.args.list) ≡ None = sym c.find.ensures ∙ ap (λ o. option_copied o) c.in-None.is in
    place_none c.args.kept.now c.requires.kept c.args.name c.args.list c.own_len-len.result c.own_len-len.ensures e
