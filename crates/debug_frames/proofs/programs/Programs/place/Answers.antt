use Rattle.std.proofs.Common.{ℕ, List, ap, ◌∙◌}
use Rattle.std.specs.Prelude.{option_map}
use Rattle.std.proofs.lemmas.Result.{IfOk-weaker}
use Rattle.debug_frames.specs.declared.programs.Program.{Program}
use Rattle.debug_frames.specs.calls.Kept.{located_among}
use Rattle.debug_frames.specs.inner.Paths.{row_place}
use Rattle.debug_frames.specs.inner.Stores.{seen}
use Rattle.debug_frames.proofs.StoreLaws.{places_seen}
use Rattle.debug_frames.proofs.programs.Programs.place.Goals as goal

pub returns : goal.returns
returns c =
    IfOk-weaker c.place_by.result _ _
    (λ place is.
    is ∙ places_seen c.self.inside.sections c.as_slice-programs.result.now c.args.address
    ∙ ap (λ (ps : List (ℕ × Program)). option_map row_place (located_among ps c.args.address)) (ap (seen c.self.inside.sections) c.as_slice-programs.ensures ∙ c.self.view_is))
    c.place_by.ensures
