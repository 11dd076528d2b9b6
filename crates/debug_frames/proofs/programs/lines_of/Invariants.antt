use Rattle.std.proofs.Common.{◌≡◌, ◌++◌, drop}
use Rattle.debug_frames.specs.calls.Kept.{readable}
use Rattle.debug_frames.specs.inner.Stores.{seen}
use Rattle.debug_frames.proofs.programs.lines_of.Given as goal

abbrev pub invariant-loop-program : goal.invariant-loop-program
invariant-loop-program l = l.lines ++ readable (seen l.sections (drop l.program-index l.programs)) ≡ readable (seen l.sections l.programs)
