use Rattle.std.proofs.Common.{ℕ, List, ap, ◌∙◌}
use Rattle.std.proofs.lemmas.Result.{IfOk-weaker}
use Rattle.debug_frames.specs.declared.programs.Program.{Program}
use Rattle.debug_frames.specs.calls.Kept.{program_at}
use Rattle.debug_frames.specs.inner.Paths.{path_at}
use Rattle.debug_frames.specs.inner.Stores.{seen}
use Rattle.debug_frames.proofs.programs.Programs.path.Goals as goal

pub returns : goal.returns
returns c =
    IfOk-weaker c.path_at.result _ _
    (λ path is. is ∙ ap (λ (ps : List (ℕ × Program)). path_at (program_at ps c.args.at) c.args.number) (ap (seen c.self.inside.sections) c.as_slice-programs.ensures ∙ c.self.view_is))
    c.path_at.ensures
