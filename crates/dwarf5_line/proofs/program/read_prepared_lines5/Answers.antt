use Rattle.std.proofs.Common.{ℕ, List, subst}
use Rattle.dwarf_bytes.specs.calls.Answers.{ReadsThere}
use Rattle.dwarf_line.specs.Program.{lines_at}
use Rattle.dwarf_line.specs.calls.Standing.{IsWhatStands}
use Rattle.dwarf5_line.specs.Layout5.{texts_of, layout5, lines5}
use Rattle.dwarf5_line.proofs.program.read_prepared_lines5.Goals as goal

pub returns-clause-there : goal.returns-clause-there
returns-clause-there c =
    subst (λ (section : List ℕ). ReadsThere c.args.at c.read_at.result (lines_at (layout5 (texts_of c.args.sections.now)) section c.args.at)) c.programs-section.ensures c.read_at.ensures.there

pub returns-clause-spelled : goal.returns-clause-spelled
returns-clause-spelled c =
    subst (λ (section : List ℕ). IsWhatStands (lines5 (texts_of c.args.sections.now)) section c.args.at c.read_at.result) c.programs-section.ensures c.read_at.ensures.spelled
