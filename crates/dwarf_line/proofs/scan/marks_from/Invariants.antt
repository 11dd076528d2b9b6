use Rattle.std.proofs.Common.{◌-◌, length}
use Rattle.dwarf_line.proofs.scan.marks_from.Given as goal

abbrev pub decreases-opcodes : goal.decreases-opcodes
decreases-opcodes l = length l.reader.block - l.reader.at
