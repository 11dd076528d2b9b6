use Rattle.std.proofs.Common.{◌≡◌, ◌++◌, map}
use Rattle.line_coverage.specs.inner.Order.{line_of}
use Rattle.line_coverage.proofs.placing.lines_of.Given as goal

abbrev pub invariant-spots : goal.invariant-spots
invariant-spots l = l.lines.items ++ map line_of l.spot-iterator ≡ map line_of l.spots.entries
