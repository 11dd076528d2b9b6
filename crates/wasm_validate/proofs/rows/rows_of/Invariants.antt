use Rattle.std.proofs.Common.{◌≤◌, ◌-◌, length}
use Rattle.wasm_validate.specs.calls.Operands.{AreRows}
use Rattle.wasm_validate.proofs.rows.rows_of.Given as goal

abbrev pub invariant-loop-i : goal.invariant-loop-i
invariant-loop-i l = record { within : l.i ≤ length l.marks; so_far : AreRows l.rows.items l.marks l.i }

abbrev pub decreases-loop-i : goal.decreases-loop-i
decreases-loop-i l = length l.marks - l.i
