use Rattle.std.proofs.Common.{◌≡◌, ◌++◌, drop}
use Rattle.instrument.specs.inner.Parts.{renumbered}
use Rattle.instrument.proofs.exports.renumbered.Given as goal

abbrev pub invariant-loop-i : goal.invariant-loop-i
invariant-loop-i l = l.out ++ renumbered (drop l.i l.exports) (drop l.i l.indices) ≡ renumbered l.exports l.indices
