use Rattle.dwarf_info.specs.calls.Rows4.{rows4}
use Rattle.dwarf_info.proofs.version4.OnlyFour.new.Goals as goal

pub returns-in-Ok : goal.returns-in-Ok
returns-in-Ok c = (c.in-Ok.ensures, c.new.ensures rows4 c.args.sections.now)
