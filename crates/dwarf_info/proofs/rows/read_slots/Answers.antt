use Rattle.std.proofs.Common.{◌≡◌, ℕ, List, Some, sym, ap, subst, ◌∙◌}
use Rattle.std.specs.Prelude.{Option, IfSome}
use Rattle.std.specs.Ordering.{nat_cmp}
use Rattle.std.specs.BTreeMap.{get}
use Rattle.wasm_bytes.specs.Place.{Read}
use Rattle.wasm_bytes.specs.calls.Answers.{Gives}
use Rattle.dwarf_info.specs.declared.form.Slot.{Slot}
use Rattle.dwarf_info.specs.declared.known.PairsAt.{PairsAt}
use Rattle.dwarf_info.specs.calls.Pairs.{AreThere, IsRight, told}
use Rattle.dwarf_info.proofs.RowLaws.{place_is}
use Rattle.dwarf_info.proofs.PairLaws.{place, ended_told}
use Rattle.dwarf_info.proofs.rows.read_slots.Goals as goal

pub read_known-requires-clause-there : goal.read_known-requires-clause-there
read_known-requires-clause-there g c =
    let pair = g.V.UnitVersion.pair in
    let section = c.args.section.now in
    let lists = c.args.pairs.now.lists.value in
    let known = get nat_cmp c.args.pairs.now.known in
    let start = c.at-start.result in
    let e : known start ≡ Some c.in-Some.known = sym c.found_at.ensures ∙ c.in-Some.is in
    let right : IsRight pair section lists start c.in-Some.known = subst (λ (o : Option PairsAt). IfSome o (IsRight pair section lists start)) e (c.requires.knows start) in
    subst (λ (n : ℕ). AreThere lists section n c.in-Some.known) c.at-start.ensures.is right.1

pub returns-in-Some-clause-item : goal.returns-in-Some-clause-item
returns-in-Some-clause-item g c =
    let pair = g.V.UnitVersion.pair in
    let section = c.args.section.now in
    let lists = c.args.pairs.now.lists.value in
    let known = get nat_cmp c.args.pairs.now.known in
    let start = c.at-start.result in
    let e : known start ≡ Some c.in-Some.known = sym c.found_at.ensures ∙ c.in-Some.is in
    let right : IsRight pair section lists start c.in-Some.known = subst (λ (o : Option PairsAt). IfSome o (IsRight pair section lists start)) e (c.requires.knows start) in
    let here : c.args.reader.now ≡ place section start = place_is c.args.reader.now section c.requires.section ∙ ap (place section) (sym c.at-start.ensures.is) in
    subst (λ (r : Read (List Slot)). Gives c.read_known.result c.read_known.new.reader r)
    (sym (ended_told pair section start c.args.reader.now here (told lists section c.in-Some.known) right.0)) c.read_known.ensures.item
