use Rattle.std.proofs.Common.{length}
use Rattle.dwarf5_line.proofs.entries.+read_summary.Given as goal

abbrev pub decreases-read_summary : goal.decreases-read_summary
decreases-read_summary l = length l.pairs.now
