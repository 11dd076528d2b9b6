use Rattle.std.proofs.Common.{ap, subst, ◌∙◌}
use Rattle.dwarf_line.specs.declared.lines.Lines.{Lines}
use Rattle.debug_frames.specs.Programs.{program_there}
use Rattle.debug_frames.specs.inner.Paths.{path_in}
use Rattle.debug_frames.specs.inner.Stores.{Serves}
use Rattle.debug_frames.proofs.StoreLaws.{whole_path, unreadable_path}
use Rattle.debug_frames.proofs.stored.stored_path.Goals as goal

pub returns-in-Whole : goal.returns-in-Whole
returns-in-Whole c =
    let p = program_there c.args.sections.now c.args.at in
    c.path_in.ensures ∙ ap (λ (l : Lines). path_in l c.args.number) c.lines.ensures ∙ whole_path p c.in-Whole.held c.args.number (subst (Serves p) c.in-Whole.is c.requires)

pub returns-in-Unreadable : goal.returns-in-Unreadable
returns-in-Unreadable c =
    let p = program_there c.args.sections.now c.args.at in
    unreadable_path p c.args.number (subst (Serves p) c.in-Unreadable.is c.requires)
