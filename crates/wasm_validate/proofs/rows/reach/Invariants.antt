use Rattle.std.proofs.Common.{ℕ, List, length, ◌+◌, ◌-◌}
use Rattle.wasm_validate.specs.calls.Operands.{AreRows}
use Rattle.wasm_validate.proofs.rows.reach.Given as goal

abbrev pub invariant-loop-alloc : goal.invariant-loop-alloc
invariant-loop-alloc l = (marks : List _) (n : ℕ) → AreRows l.fn.rows.items marks n → AreRows l.rows.items marks n

abbrev pub decreases-loop-alloc : goal.decreases-loop-alloc
decreases-loop-alloc l = l.height + 1 - length l.rows.items
