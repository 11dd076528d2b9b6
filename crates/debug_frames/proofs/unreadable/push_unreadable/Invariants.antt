use Rattle.std.proofs.Common.{◌≡◌, ◌++◌, drop}
use Rattle.std.specs.Prelude.{flat_map}
use Rattle.debug_frames.specs.Unreadable.{unit_line}
use Rattle.debug_frames.proofs.unreadable.push_unreadable.Given as goal

abbrev pub invariant-loop-answer : goal.invariant-loop-answer
invariant-loop-answer l = l.fn.out ++ flat_map (unit_line l.information.sections) l.answer-items ≡ l.out ++ flat_map (unit_line l.information.sections) (drop l.answer-index l.answer-items)
