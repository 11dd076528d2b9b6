use Rattle.std.proofs.Common.{length}
use Rattle.dwarf_bytes.proofs.items.+little_endian.Given as goal

abbrev pub decreases-little_endian : goal.decreases-little_endian
decreases-little_endian l = length l.bytes.now
