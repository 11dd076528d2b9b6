use Rattle.std.proofs.Common.{length}
use Rattle.dwarf_types.specs.calls.Contents.{AreContents}
use Rattle.dwarf_types.proofs.structures.add_entries.Given as goal

abbrev pub invariant-entries : goal.invariant-entries
invariant-entries l = AreContents l.units l.structures

abbrev pub decreases-entries : goal.decreases-entries
decreases-entries l = length l.left
