use Rattle.dwarf_line.proofs.Folds.{made_ok, run_fails}
use Rattle.dwarf_line.proofs.program.run.Goals as goal

pub returns : goal.returns
returns c = record { item = run_fails c.args.header c.args.reader.now c.new.result c.in-Err.fault c.new.ensures c.in-Err.ensures.item }

pub returns-in-Ok-lines_of : goal.returns-in-Ok-lines_of
returns-in-Ok-lines_of c = record { item = made_ok c.args.header c.args.reader.now c.gather_to_end.new.reader c.new.result c.gather_to_end.new.state c.in-Ok-lines_of.lines c.new.ensures c.in-Ok.ensures.item c.in-Ok-lines_of.ensures }
