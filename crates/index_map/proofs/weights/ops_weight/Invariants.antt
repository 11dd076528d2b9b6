use Rattle.std.proofs.Common.{◌≡◌, ◌+◌, ℕ, drop, slice_get, unwrap_or}
use Rattle.rewrite_modules.specs.Weight.{ops_weight}
use Rattle.index_map.proofs.weights.ops_weight.Given as goal

abbrev pub invariant-loop-j : goal.invariant-loop-j
invariant-loop-j l = l.sum + ops_weight (λ (j : ℕ). unwrap_or (slice_get l.heights j) 0) l.j (drop l.j l.ops) ≡ ops_weight (λ (j : ℕ). unwrap_or (slice_get l.heights j) 0) 0 l.ops
