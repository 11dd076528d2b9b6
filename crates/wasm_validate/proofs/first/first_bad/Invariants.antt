use Rattle.std.proofs.Common.{◌≤◌, ◌-◌, length}
use Rattle.wasm_validate.specs.inner.Places.{FineUpTo}
use Rattle.wasm_validate.proofs.first.first_bad.Given as goal

abbrev pub invariant-loop-i : goal.invariant-loop-i
invariant-loop-i g l = record { within : l.i ≤ length l.parts; fine : FineUpTo l.parts (g.T.Part.fine l.m) l.i }

abbrev pub decreases-loop-i : goal.decreases-loop-i
decreases-loop-i g l = length l.parts - l.i
