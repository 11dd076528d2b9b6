use Rattle.std.proofs.Common.{◌≡◌, ◌+◌, ◌-◌, ◌≤◌, length, drop}
use Rattle.dwarf_scopes.specs.inner.Insides.{deeper}
use Rattle.dwarf_scopes.proofs.insides.deeper.Given as goal

abbrev pub invariant-entries : goal.invariant-entries
invariant-entries l = (l.at ≤ length l.entries) × (deeper l.depth l.entries ≡ l.at + deeper l.depth (drop l.at l.entries))

abbrev pub decreases-entries : goal.decreases-entries
decreases-entries l = length l.entries - l.at
