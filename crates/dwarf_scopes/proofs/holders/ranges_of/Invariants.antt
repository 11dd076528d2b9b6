use Rattle.std.proofs.Common.{◌≡◌, ◌++◌, drop}
use Rattle.dwarf_scopes.specs.inner.Holding.{bounds_in}
use Rattle.dwarf_scopes.specs.calls.Numbered.{ranges_from}
use Rattle.dwarf_scopes.proofs.holders.ranges_of.Given as goal

abbrev pub invariant-entries : goal.invariant-entries
invariant-entries l = l.ranges.items ++ ranges_from bounds_in l.index (drop l.index l.entries) ≡ ranges_from bounds_in 0 l.entries
