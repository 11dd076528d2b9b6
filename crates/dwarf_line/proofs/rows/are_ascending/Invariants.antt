use Rattle.std.proofs.Common.{◌≡◌, drop}
use Rattle.dwarf_line.specs.declared.lines.Row.{Row}
use Rattle.dwarf_line.specs.inner.Halving.{ascends_from}
use Rattle.dwarf_line.proofs.rows.are_ascending.Given as goal

abbrev pub invariant-loop-row : goal.invariant-loop-row
invariant-loop-row l = ascends_from (λ (r : Row). r.address) l.reached (drop l.row-index l.rows) ≡ ascends_from (λ (r : Row). r.address) 0 l.rows
