use Rattle.std.proofs.Common.{ℕ, zero, suc, ◌≤◌, List, [], ◌∷◌, sym, subst, lit≤}
use Rattle.rewrite_modules.specs.Weight.{height_at}
use Rattle.rewrite_tests.proofs.weight_tests.division_weighs.Goals as goal

abbrev Low : List (List ℕ) → Type 0
Low heights = (i op : ℕ) → height_at heights i op ≤ 4096

low : Low ((0 ∷ 1 ∷ 2 ∷ 1 ∷ []) ∷ [])
low zero zero = lit≤ tt
low zero (suc zero) = lit≤ tt
low zero (suc (suc zero)) = lit≤ tt
low zero (suc (suc (suc zero))) = lit≤ tt
low zero (suc (suc (suc (suc op)))) = lit≤ tt
low (suc i) op = lit≤ tt

pub weighs-requires-clause-low : goal.weighs-requires-clause-low
weighs-requires-clause-low c = subst Low (sym c.in-Ok.ensures) low
