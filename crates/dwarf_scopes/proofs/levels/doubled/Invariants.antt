use Rattle.std.proofs.Common.{ℕ, List, length}
use Rattle.dwarf_info.specs.declared.entry.Entry.{Entry}
use Rattle.dwarf_scopes.specs.calls.Levels.{AreParts}
use Rattle.dwarf_scopes.proofs.LevelLaws.{Doubling}
use Rattle.dwarf_scopes.proofs.levels.doubled.Given as goal

abbrev pub invariant-parts : goal.invariant-parts
invariant-parts l = (size : ℕ) → (es : List Entry) → AreParts size l.parts es → Doubling size es l.left l.double

abbrev pub decreases-parts : goal.decreases-parts
decreases-parts l = length l.left
