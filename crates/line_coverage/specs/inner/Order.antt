-- The order of lines in a map.
use Rattle.std.specs.Prelude.{ℕ}
use Rattle.std.specs.declared.cmp.Ordering.{Ordering}
use Rattle.line_coverage.specs.declared.spots.Spot.{Spot}
use Rattle.line_coverage.specs.declared.spots.LineCount.{LineCount}
use Rattle.line_coverage.specs.contracts.spots.SpotOrd.TheImpl as spot_ord

abbrev pub spot_cmp : Spot → Spot → Ordering
spot_cmp = (spot_ord.ghosts).cmp

abbrev pub line_of : Spot × ℕ → LineCount
line_of e = record { spot = e.0; steps = e.1 }
