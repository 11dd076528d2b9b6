use Rattle.std.proofs.Common.{arith}
use Rattle.dwarf_line.specs.Header.{layout}
use Rattle.dwarf_line.specs.calls.Grammar.{lines}
use Rattle.dwarf_line.proofs.Laws.{lines_exact}
use Rattle.dwarf_line.proofs.Standing.{lines_stand}
use Rattle.dwarf_line.proofs.program.read_lines.Goals as goal

pub returns-clause-spelled : goal.returns-clause-spelled
returns-clause-spelled c = lines_stand lines layout lines_exact c.args.section.now c.args.at (λ i. omega (arith, c.type_inv.section i)) c.read_program.result c.read_program.ensures.there
