use Rattle.std.proofs.Common.{List, Option, ap, ◌∙◌}
use Rattle.std.specs.Prelude.{slice_get, option_and_then}
use Rattle.std.proofs.lemmas.Result.{IfOk-weaker}
use Rattle.dwarf_entries.specs.Standing.{Standing}
use Rattle.dwarf_scopes.specs.declared.table.EntryPlace.{EntryPlace}
use Rattle.dwarf_scopes.specs.calls.Tabled.{placed}
use Rattle.dwarf_scopes.specs.inner.Picks.{inlined_from}
use Rattle.dwarf_scopes.proofs.TableLaws.{got_number}
use Rattle.dwarf_scopes.proofs.table.SubprogramTable.found.Goals as goal

pub returns-clause-subprogram : goal.returns-clause-subprogram
returns-clause-subprogram c =
    let units = c.args.units.now in
    let place = c.place_of_number-place.ensures ∙ ap (λ (ps : List EntryPlace). option_and_then (slice_get ps) c.args.number) c.as_slice.ensures in
    let same = ap (option_and_then (placed units)) place ∙ got_number units c.args.self.now.places c.args.number c.requires.0 in
    IfOk-weaker c.found_at_place.result _ _ (λ x is. is ∙ same) c.found_at_place.ensures.subprogram

pub returns-clause-inlined : goal.returns-clause-inlined
returns-clause-inlined c =
    let units = c.args.units.now in
    let place = c.place_of_number-place.ensures ∙ ap (λ (ps : List EntryPlace). option_and_then (slice_get ps) c.args.number) c.as_slice.ensures in
    let same = ap (option_and_then (placed units)) place ∙ got_number units c.args.self.now.places c.args.number c.requires.0 in
    IfOk-weaker c.found_at_place.result _ _ (λ x is. is ∙ ap (λ (o : Option Standing). inlined_from c.args.sections.now c.args.address o) same) c.found_at_place.ensures.inlined
