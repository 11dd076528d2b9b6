use Rattle.std.proofs.Common.{◌≡◌, ◌+◌, ◌-◌, length}
use Rattle.dwarf_info.proofs.marks.mark_tables.Given as goal

abbrev pub invariant-units : goal.invariant-units
invariant-units g l = length l.marks.items ≡ length l.initial.marks.items

abbrev pub decreases-units : goal.decreases-units
decreases-units g l = length l.reader.block + 1 - l.reader.at
