use Rattle.std.proofs.Common.{◌≤◌, ◌-◌, length}
use Rattle.wasm_validate.proofs.HeightLaws.{GreatestUpTo}
use Rattle.wasm_validate.proofs.limit.greatest_height.Given as goal

abbrev pub invariant-loop-i : goal.invariant-loop-i
invariant-loop-i l = record { within : l.i ≤ length l.marks; so_far : GreatestUpTo l.marks l.i l.most }

abbrev pub decreases-loop-i : goal.decreases-loop-i
decreases-loop-i l = length l.marks - l.i
