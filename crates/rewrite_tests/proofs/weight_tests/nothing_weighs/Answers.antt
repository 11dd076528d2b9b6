use Rattle.std.proofs.Common.{ℕ, ◌≤◌, List, [], sym, subst, lit≤}
use Rattle.rewrite_modules.specs.Weight.{height_at}
use Rattle.rewrite_tests.proofs.weight_tests.nothing_weighs.Goals as goal

abbrev Low : List (List ℕ) → Type 0
Low heights = (i op : ℕ) → height_at heights i op ≤ 4096

low : Low []
low i op = lit≤ tt

pub weighs-requires-clause-low : goal.weighs-requires-clause-low
weighs-requires-clause-low c = subst Low (sym c.new-heights.ensures) low
