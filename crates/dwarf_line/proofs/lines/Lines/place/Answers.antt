use Rattle.dwarf_line.proofs.PlaceLaws.{place_is}
use Rattle.dwarf_line.proofs.lines.Lines.place.Goals as goal

pub returns-clause-is : goal.returns-clause-is
returns-clause-is c = place_is c.args.address c.args.self.now.sequences c.row_of.result c.row_of.ensures
