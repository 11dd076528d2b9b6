use Rattle.std.proofs.Common.{◌≡◌, ℕ, drop, slice_get, unwrap_or}
use Rattle.std.specs.Prelude.{max}
use Rattle.rewrite_modules.specs.Multiple.{highest}
use Rattle.index_map.proofs.count.highest_of.Given as goal

abbrev pub invariant-loop-j : goal.invariant-loop-j
invariant-loop-j l = max l.most (highest (λ (j : ℕ). unwrap_or (slice_get l.heights j) 0) l.j (drop l.j l.ops)) ≡ highest (λ (j : ℕ). unwrap_or (slice_get l.heights j) 0) 0 l.ops
