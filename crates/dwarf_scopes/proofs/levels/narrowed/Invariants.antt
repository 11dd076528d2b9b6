use Rattle.std.proofs.Common.{◌≡◌, ◌++◌, drop}
use Rattle.dwarf_scopes.proofs.levels.narrowed.Given as goal

abbrev pub invariant-loop-count : goal.invariant-loop-count
invariant-loop-count l = l.narrow ++ drop l.count-index l.counts ≡ l.counts
