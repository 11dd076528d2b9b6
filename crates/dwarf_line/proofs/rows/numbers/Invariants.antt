use Rattle.std.proofs.Common.{◌≡◌, ◌++◌, ◌-◌}
use Rattle.dwarf_line.specs.inner.Order.{numbers_from}
use Rattle.dwarf_line.proofs.rows.numbers.Given as goal

abbrev pub invariant-loop-number : goal.invariant-loop-number
invariant-loop-number l = l.numbers.items ++ numbers_from l.number (l.count - l.number) ≡ numbers_from 0 l.count
