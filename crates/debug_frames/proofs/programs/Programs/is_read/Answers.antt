use Rattle.std.proofs.Common.{ℕ, List, Some, sym, ap, subst, ◌∙◌}
use Rattle.std.specs.Prelude.{option_map}
use Rattle.debug_frames.specs.declared.programs.Program.{Program}
use Rattle.debug_frames.specs.calls.Kept.{program_at}
use Rattle.debug_frames.specs.inner.Stores.{AreStored, seen, is_read}
use Rattle.debug_frames.proofs.StoreLaws.{read_shown, none_shown}
use Rattle.debug_frames.proofs.programs.Programs.is_read.Goals as goal

pub returns-in-Some : goal.returns-in-Some
returns-in-Some c =
    let s = c.self.inside.sections in
    let xs = c.as_slice.result.now in
    let all = subst (AreStored s) (sym c.as_slice.ensures) c.self.invariant.1.1 in
    ap Some c.is_read.ensures ∙ read_shown s c.args.at xs c.in-Some.stored.now all c.in-Some.ensures
    ∙ ap (λ (ps : List (ℕ × Program)). option_map is_read (program_at ps c.args.at)) (ap (seen s) c.as_slice.ensures ∙ c.self.view_is)

pub returns-in-None : goal.returns-in-None
returns-in-None c =
    let s = c.self.inside.sections in
    let xs = c.as_slice.result.now in
    let all = subst (AreStored s) (sym c.as_slice.ensures) c.self.invariant.1.1 in
    none_shown s c.args.at xs all c.in-None.ensures
    ∙ ap (λ (ps : List (ℕ × Program)). option_map is_read (program_at ps c.args.at)) (ap (seen s) c.as_slice.ensures ∙ c.self.view_is)
