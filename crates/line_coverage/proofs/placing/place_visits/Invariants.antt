use Rattle.std.proofs.Common.{ℕ, List, [], drop, map}
use Rattle.line_coverage.specs.declared.spots.Spot.{Spot}
use Rattle.line_coverage.specs.inner.Placing.{in_tables, Moves}
use Rattle.line_coverage.proofs.placing.place_visits.Given as goal

-- what is still to come completes the moves
abbrev pub invariant-tables : goal.invariant-tables
invariant-tables l = (spots : List (Spot × ℕ)) (visits : List (ℕ × ℕ)) → Moves l.spots.entries l.visits.entries spots visits (in_tables l.table (map (λ t. t.now) (drop l.table l.tables.items))) → Moves [] l.initial.visits.entries spots visits (in_tables 0 (map (λ t. t.now) l.tables.items))
