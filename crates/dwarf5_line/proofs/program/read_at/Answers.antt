use Rattle.std.proofs.Common.{arith}
use Rattle.dwarf_line.proofs.Standing.{lines_stand}
use Rattle.dwarf5_line.specs.Layout5.{texts_of, layout5, lines5}
use Rattle.dwarf5_line.proofs.Laws5.{lines5_exact}
use Rattle.dwarf5_line.proofs.program.read_at.Goals as goal

pub returns-clause-spelled : goal.returns-clause-spelled
returns-clause-spelled c =
    let texts = texts_of c.args.sections.now in
    lines_stand (lines5 texts) (layout5 texts) (lines5_exact texts) c.args.section.now c.args.at (λ i. omega (arith, c.type_inv.section i)) c.read_program.result c.read_program.ensures.there
