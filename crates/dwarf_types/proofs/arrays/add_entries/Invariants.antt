use Rattle.std.proofs.Common.{length}
use Rattle.dwarf_types.specs.calls.Known.{AreKnown}
use Rattle.dwarf_types.proofs.arrays.add_entries.Given as goal

abbrev pub invariant-entries : goal.invariant-entries
invariant-entries l = AreKnown l.units l.arrays

abbrev pub decreases-entries : goal.decreases-entries
decreases-entries l = length l.left
