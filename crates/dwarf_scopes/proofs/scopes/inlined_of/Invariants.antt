use Rattle.std.proofs.Common.{◌≡◌, ◌++◌, length}
use Rattle.std.specs.Prelude.{filter, reverse}
use Rattle.dwarf_scopes.specs.inner.Picks.{is_inlined}
use Rattle.dwarf_scopes.proofs.scopes.inlined_of.Given as goal

abbrev pub invariant-scopes : goal.invariant-scopes
invariant-scopes l = reverse (filter is_inlined l.initial.outer) ≡ l.inlined ++ reverse (filter is_inlined l.outer)

abbrev pub decreases-scopes : goal.decreases-scopes
decreases-scopes l = length l.outer
