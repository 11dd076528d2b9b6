use Rattle.dwarf_types.specs.calls.Contents.{AreContents}
use Rattle.dwarf_types.proofs.structures.Structures.of.Given as goal

abbrev pub invariant-loop-answer : goal.invariant-loop-answer
invariant-loop-answer l = AreContents l.fn.units l.structures
