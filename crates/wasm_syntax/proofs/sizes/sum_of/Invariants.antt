use Rattle.std.proofs.Common.{◌≡◌, ◌+◌, ℕ, map, sum, drop}
use Rattle.std.specs.Prelude.{fold}
use Rattle.wasm_syntax.proofs.sizes.sum_of.Given as goal

abbrev pub invariant-loop-group : goal.invariant-loop-group
invariant-loop-group l = sum (map (λ g. g.count) l.groups) ≡ fold (λ (a : ℕ) (x : ℕ). a + x) l.sum (map (λ g. g.count) (drop l.group-index l.groups))
