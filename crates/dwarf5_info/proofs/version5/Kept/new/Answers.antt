use Rattle.dwarf_info.specs.calls.Keeping.{rows_of}
use Rattle.dwarf5_info.proofs.version5.Kept.new.Goals as goal

pub returns-in-Ok : goal.returns-in-Ok
returns-in-Ok g c = (c.in-Ok.ensures, c.new.ensures (rows_of g.V.UnitVersion.pair) c.args.sections.now)
