use Rattle.std.proofs.Common.{◌≡◌, ◌+◌, ◌-◌, length}
use Rattle.dwarf_info.proofs.marks.mark_all.Given as goal

abbrev pub invariant-offsets : goal.invariant-offsets
invariant-offsets g l = length l.marks.items ≡ length l.section + 1

abbrev pub decreases-offsets : goal.decreases-offsets
decreases-offsets g l = length l.marks.items - l.at
