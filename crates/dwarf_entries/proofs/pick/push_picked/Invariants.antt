use Rattle.std.proofs.Common.{◌≡◌, ◌++◌, length}
use Rattle.std.specs.Prelude.{filter}
use Rattle.dwarf_entries.specs.Standing.{standing_in}
use Rattle.dwarf_entries.proofs.pick.push_picked.Given as goal

abbrev pub invariant-entries : goal.invariant-entries
invariant-entries g l = l.initial.picked ++ filter (g.P.Pick.picks l.pick) (standing_in l.unit l.entries) ≡ l.picked ++ filter (g.P.Pick.picks l.pick) (standing_in l.unit l.left)

abbrev pub decreases-entries : goal.decreases-entries
decreases-entries g l = length l.left
