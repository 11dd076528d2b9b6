use Rattle.dwarf_info.proofs.ReadLaws.{exact4, spelled4}
use Rattle.dwarf_info.proofs.read.read_units.Goals as goal

pub returns-in-Ok-clause-exact : goal.returns-in-Ok-clause-exact
returns-in-Ok-clause-exact c = exact4 c.read_all-units.result c.args.sections.now c.without5-all.result c.without5-all.ensures.is c.read_all-units.ensures

pub returns-in-Ok-clause-spelled : goal.returns-in-Ok-clause-spelled
returns-in-Ok-clause-spelled c =
    let exact = exact4 c.read_all-units.result c.args.sections.now c.without5-all.result c.without5-all.ensures.is c.read_all-units.ensures in
    spelled4 c.read_all-units.result c.args.sections.now c.without5-all.ensures.bytes.0 c.without5-all.ensures.bytes.1 exact
