use Rattle.std.proofs.Common.{Option, None, sym, ap, ◌∙◌}
use Rattle.std.proofs.lemmas.Result.{IfOk-weaker}
use Rattle.debug_frames.specs.declared.programs.Program.{Program}
use Rattle.debug_frames.specs.inner.Paths.{path_at}
use Rattle.debug_frames.proofs.StoreLaws.{shown_of}
use Rattle.debug_frames.proofs.programs.path_at.Goals as goal

pub stored_path-requires : goal.stored_path-requires
stored_path-requires c = (shown_of c.args.sections.now c.args.at c.args.programs.now _ c.requires.stored c.in-Some.ensures).1

pub returns-in-Some : goal.returns-in-Some
returns-in-Some c =
    IfOk-weaker c.stored_path.result _ _ (λ path is. is ∙ sym (ap (λ (p : Option Program). path_at p c.args.number) (shown_of c.args.sections.now c.args.at c.args.programs.now _ c.requires.stored c.in-Some.ensures).0)) c.stored_path.ensures

pub returns-in-None : goal.returns-in-None
returns-in-None c = sym (ap (λ (p : Option Program). path_at p c.args.number) (shown_of c.args.sections.now c.args.at c.args.programs.now None c.requires.stored c.in-None.ensures))
