use Rattle.std.proofs.Common.{◌≤◌, ◌-◌, length}
use Rattle.wasm_validate.specs.calls.Operands.{RowsUpTo}
use Rattle.wasm_validate.proofs.rows.rows_of_all.Given as goal

abbrev pub invariant-loop-i : goal.invariant-loop-i
invariant-loop-i l = record { within : l.i ≤ length l.all; so_far : RowsUpTo l.every l.all l.i }

abbrev pub decreases-loop-i : goal.decreases-loop-i
decreases-loop-i l = length l.all - l.i
