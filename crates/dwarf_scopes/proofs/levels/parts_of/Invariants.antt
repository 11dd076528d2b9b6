use Rattle.std.proofs.Common.{◌++◌, List, length}
use Rattle.dwarf_scopes.specs.declared.spans.Span.{Span}
use Rattle.dwarf_scopes.specs.calls.Levels.{AreParts}
use Rattle.dwarf_scopes.proofs.levels.parts_of.Given as goal

abbrev pub invariant-entries : goal.invariant-entries
invariant-entries l = (more : List (List Span)) → AreParts l.size more l.left → AreParts l.size (l.parts ++ more) l.entries

abbrev pub decreases-entries : goal.decreases-entries
decreases-entries l = length l.left
