use Rattle.std.proofs.Common.{◌≡◌, ◌≤◌, ◌-◌, length, map, take}
use Rattle.wasm_validate.specs.calls.MarkedHeights.{height_or_zero}
use Rattle.wasm_validate.proofs.limit.heights_of_marks.Given as goal

abbrev pub invariant-loop-i : goal.invariant-loop-i
invariant-loop-i l = record { within : l.i ≤ length l.marks; so_far : l.heights ≡ map height_or_zero (take l.i l.marks) }

abbrev pub decreases-loop-i : goal.decreases-loop-i
decreases-loop-i l = length l.marks - l.i
