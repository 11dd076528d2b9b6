use Rattle.std.proofs.Common.{◌≡◌, length}
use Rattle.std.specs.Prelude.{find}
use Rattle.dwarf_entries.specs.Standing.{standing_in}
use Rattle.dwarf_entries.proofs.pick.first_picked.Given as goal

abbrev pub invariant-entries : goal.invariant-entries
invariant-entries g l = find (g.P.Pick.picks l.pick) (standing_in l.unit l.entries) ≡ find (g.P.Pick.picks l.pick) (standing_in l.unit l.left)

abbrev pub decreases-entries : goal.decreases-entries
decreases-entries g l = length l.left
