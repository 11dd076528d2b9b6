use Rattle.std.proofs.Common.{◌≡◌, ℕ, Option, None, sym, subst}
use Rattle.debug_frames.specs.Frames.{program_of_unit, file_in}
use Rattle.debug_frames.specs.inner.Paths.{shown_or_mark}
use Rattle.debug_frames.proofs.PathLaws.{unnumbered}
use Rattle.debug_frames.proofs.places.call_path.Goals as goal

pub returns-in_default : goal.returns-in_default
returns-in_default c =
    let program = program_of_unit c.args.information.now.sections c.args.standing.now in
    subst (λ (number : Option ℕ). shown_or_mark None ≡ file_in program number) (sym c.in_default.is) (unnumbered program)
