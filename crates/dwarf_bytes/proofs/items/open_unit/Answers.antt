use Rattle.std.proofs.Common.{length, ap}
use Rattle.dwarf_bytes.proofs.Blocks.{opened_inside}
use Rattle.dwarf_bytes.proofs.items.open_unit.Goals as goal

pub returns-clause-inside : goal.returns-clause-inside
returns-clause-inside c = opened_inside c.cut.result c.cut.new.self c.at-start.result c.in_ok-len.len _ c.number.new.reader (ap length c.in_ok-len.ensures.stays.1) c.cut.ensures.item
