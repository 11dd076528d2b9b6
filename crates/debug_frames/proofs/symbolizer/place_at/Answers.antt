use Rattle.std.proofs.Common.{ℕ, List, Option, ap, ◌∙◌}
use Rattle.std.specs.Prelude.{option_map}
use Rattle.std.proofs.lemmas.Result.{IfOk-weaker}
use Rattle.dwarf_line.specs.Place.{Located}
use Rattle.debug_frames.specs.declared.programs.Program.{Program}
use Rattle.debug_frames.specs.calls.Kept.{located_among}
use Rattle.debug_frames.specs.inner.Paths.{row_place}
use Rattle.debug_frames.proofs.UnitRowLaws.{by_units}
use Rattle.debug_frames.proofs.symbolizer.place_at.Goals as goal

pub returns : goal.returns
returns c =
    let x = c.args.information.now in
    let a = c.args.address in
    IfOk-weaker c.place.result _ _ (λ place is. is ∙ ap (λ (ps : List (ℕ × Program)). option_map row_place (located_among ps a)) c.programs.ensures
    ∙ ap (λ (o : Option Located). option_map row_place o) (by_units x.sections x.units a)) c.place.ensures
