use Rattle.std.proofs.Common.{◌≡◌, ◌++◌, None, drop}
use Rattle.std.specs.Prelude.{IfSome}
use Rattle.std.specs.Option.{option_copied}
use Rattle.debug_frames.specs.Frames.{lines_behind}
use Rattle.debug_frames.specs.inner.Standings.{IsOfKept}
use Rattle.debug_frames.proofs.frames.push_lines.Given as goal

abbrev pub invariant-loop-standing : goal.invariant-loop-standing
invariant-loop-standing l = IfSome (option_copied l.before) (IsOfKept l.information) × (l.out ++ lines_behind l.information l.index l.resolved.address l.frame (option_copied l.before) (drop l.standing-index l.resolved.inlined) ≡ l.fn.out ++ lines_behind l.information l.index l.resolved.address l.frame None l.resolved.inlined)
