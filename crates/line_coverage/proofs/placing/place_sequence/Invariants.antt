use Rattle.std.proofs.Common.{ℕ, List, length}
use Rattle.line_coverage.specs.declared.spots.Spot.{Spot}
use Rattle.line_coverage.specs.inner.Placing.{in_sequence, Moves}
use Rattle.line_coverage.proofs.placing.place_sequence.Given as goal

-- what is still to come completes the moves
abbrev pub invariant-held : goal.invariant-held
invariant-held l = (spots : List (Spot × ℕ)) (visits : List (ℕ × ℕ)) → Moves l.spots.entries l.visits.entries spots visits (in_sequence l.table l.sequence) → Moves l.initial.spots.entries l.initial.visits.entries spots visits (in_sequence l.table l.sequence)

abbrev pub decreases-held : goal.decreases-held
decreases-held l = length l.visits.entries
