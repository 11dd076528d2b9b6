use Rattle.std.proofs.Common.{◌≡◌, ◌+◌, drop}
use Rattle.std.specs.Prelude.{nat_lt}
use Rattle.std.specs.List.{prefix_len}
use Rattle.dwarf_entries.proofs.standing.deeper.Given as goal

abbrev pub invariant-loop-number : goal.invariant-loop-number
invariant-loop-number l = prefix_len (λ e. nat_lt l.depth e.depth) l.entries ≡ l.number + prefix_len (λ e. nat_lt l.depth e.depth) (drop l.number l.entries)
