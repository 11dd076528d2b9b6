use Rattle.std.proofs.Common.{ℕ, List, Option, Some, sym, ap, subst, ◌∙◌}
use Rattle.std.specs.Prelude.{option_map}
use Rattle.std.proofs.lemmas.Result.{IfOk-weaker}
use Rattle.debug_frames.specs.declared.programs.Program.{Program}
use Rattle.debug_frames.specs.Frames.{file_in}
use Rattle.debug_frames.specs.Programs.{program_there}
use Rattle.debug_frames.specs.calls.Kept.{program_at, IsKept}
use Rattle.debug_frames.specs.inner.Paths.{path_at, shown_or_mark}
use Rattle.debug_frames.proofs.PathLaws.{path_shown}
use Rattle.debug_frames.proofs.places.path_of_program.Goals as goal

pub returns-in-Some : goal.returns-in-Some
returns-in-Some c =
    let x = c.args.information.now in
    let at = c.in-Some.at in
    let number = c.args.number in
    let there = program_there x.sections at in
    let kept : IsKept x.sections x.units (Some at) = subst (IsKept x.sections x.units) c.in-Some.is c.requires in
    IfOk-weaker c.path.result _ _
    (λ path is.
    ap shown_or_mark
    (is ∙ ap (λ (ps : List (ℕ × Program)). path_at (program_at ps at) number) c.programs.ensures ∙ ap (λ (p : Option Program). path_at p number) kept)
    ∙ path_shown (Some there) number
    ∙ ap (λ (o : Option ℕ). file_in (option_map (program_there x.sections) o) (Some number)) (sym c.in-Some.is))
    c.path.ensures
