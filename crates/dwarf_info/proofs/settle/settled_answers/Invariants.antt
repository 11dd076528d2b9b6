use Rattle.std.proofs.Common.{◌≡◌, ◌++◌, map}
use Rattle.std.specs.Vec.Iter.{into_iter_items}
use Rattle.dwarf_info.specs.inner.Settling.{placed, meets, answer_by}
use Rattle.dwarf_info.proofs.settle.settled_answers.Given as goal

abbrev pub invariant-loop-answer : goal.invariant-loop-answer
invariant-loop-answer l = map (answer_by (meets (placed l.fn.places))) l.fn.answers ≡ l.kept ++ map (answer_by (meets (placed l.fn.places))) (into_iter_items l.answer-iterator)
