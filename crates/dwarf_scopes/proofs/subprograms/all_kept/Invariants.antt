use Rattle.std.proofs.Common.{◌≡◌, ◌++◌, drop}
use Rattle.dwarf_scopes.specs.inner.Picks.{kept}
use Rattle.dwarf_scopes.proofs.subprograms.all_kept.Given as goal

abbrev pub invariant-loop-answer : goal.invariant-loop-answer
invariant-loop-answer l = kept l.units ≡ l.found ++ kept (drop l.answer-index l.units)
