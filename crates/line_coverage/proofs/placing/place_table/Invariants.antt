use Rattle.std.proofs.Common.{ℕ, List, drop}
use Rattle.line_coverage.specs.declared.spots.Spot.{Spot}
use Rattle.line_coverage.specs.inner.Placing.{in_sequences, Moves}
use Rattle.line_coverage.proofs.placing.place_table.Given as goal

-- what is still to come completes the moves
abbrev pub invariant-sequences : goal.invariant-sequences
invariant-sequences l = (spots : List (Spot × ℕ)) (visits : List (ℕ × ℕ)) → Moves l.spots.entries l.visits.entries spots visits (in_sequences l.table (drop l.sequence-index l.sequences)) → Moves l.initial.spots.entries l.initial.visits.entries spots visits (in_sequences l.table l.sequences)
