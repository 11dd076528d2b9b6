use Rattle.std.proofs.Common.{◌≤◌, ◌-◌, length}
use Rattle.wasm_validate.proofs.HeightLaws.{LowUpTo}
use Rattle.wasm_validate.proofs.limit.first_high.Given as goal

abbrev pub invariant-loop-i : goal.invariant-loop-i
invariant-loop-i l = record { within : l.i ≤ length l.all; low : LowUpTo l.all l.i }

abbrev pub decreases-loop-i : goal.decreases-loop-i
decreases-loop-i l = length l.all - l.i
