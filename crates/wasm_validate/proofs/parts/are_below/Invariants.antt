use Rattle.std.proofs.Common.{◌≤◌, ◌<◌, ◌-◌, length}
use Rattle.wasm_validate.specs.inner.Places.{FineUpTo}
use Rattle.wasm_validate.proofs.parts.are_below.Given as goal

abbrev pub invariant-loop-i : goal.invariant-loop-i
invariant-loop-i l = record { within : l.i ≤ length l.indices; fine : FineUpTo l.indices (λ _ f. f < l.count) l.i }

abbrev pub decreases-loop-i : goal.decreases-loop-i
decreases-loop-i l = length l.indices - l.i
