use Rattle.dwarf_types.specs.calls.Known.{AreKnown}
use Rattle.dwarf_types.proofs.arrays.Arrays.of.Given as goal

abbrev pub invariant-turns : goal.invariant-turns
invariant-turns l = AreKnown l.units l.arrays

abbrev pub decreases-turns : goal.decreases-turns
decreases-turns l = l.more
