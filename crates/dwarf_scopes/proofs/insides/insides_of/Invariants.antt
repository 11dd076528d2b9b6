use Rattle.std.proofs.Common.{◌≡◌, ◌≤◌, length, drop}
use Rattle.dwarf_scopes.specs.inner.Insides.{insides}
use Rattle.dwarf_scopes.proofs.insides.insides_of.Given as goal

abbrev pub invariant-entries : goal.invariant-entries
invariant-entries l = (l.left ≤ length l.entries) × (length l.counts.items ≡ length l.entries) × (drop l.left l.counts.items ≡ insides (drop l.left l.entries))

abbrev pub decreases-entries : goal.decreases-entries
decreases-entries l = l.left
