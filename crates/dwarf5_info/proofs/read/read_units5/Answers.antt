use Rattle.std.proofs.Common.{refl}
use Rattle.dwarf5_info.proofs.ReadLaws5.{spelled5}
use Rattle.dwarf5_info.proofs.read.read_units5.Goals as goal

pub read_by-requires : goal.read_by-requires
read_by-requires c κs = ((refl, tt), (c.new.ensures, c.requires.base.info))

pub returns-clause-spelled : goal.returns-clause-spelled
returns-clause-spelled c = spelled5 c.read_by.result c.args.sections.now c.sections_are_bytes.ensures.0 c.sections_are_bytes.ensures.1 c.read_by.ensures
