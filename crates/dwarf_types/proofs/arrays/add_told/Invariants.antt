use Rattle.dwarf_types.specs.calls.Known.{AreKnown}
use Rattle.dwarf_types.proofs.arrays.add_told.Given as goal

abbrev pub invariant-loop-answer : goal.invariant-loop-answer
invariant-loop-answer l = AreKnown l.fn.units l.arrays
