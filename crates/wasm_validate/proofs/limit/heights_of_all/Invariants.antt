use Rattle.std.proofs.Common.{◌≡◌, ◌≤◌, ◌-◌, length, map, take}
use Rattle.wasm_validate.specs.calls.MarkedHeights.{height_or_zero}
use Rattle.wasm_validate.proofs.limit.heights_of_all.Given as goal

abbrev pub invariant-loop-i : goal.invariant-loop-i
invariant-loop-i l = record { within : l.i ≤ length l.all; so_far : l.heights ≡ map (map height_or_zero) (take l.i l.all) }

abbrev pub decreases-loop-i : goal.decreases-loop-i
decreases-loop-i l = length l.all - l.i
