use Rattle.std.proofs.Common.{◌≡◌, ◌+◌, ◌<◌, ◌^◌}
use Rattle.line_coverage.specs.inner.Sums.{sum_all}
use Rattle.line_coverage.proofs.sums.total_of.Given as goal

abbrev pub invariant-numbers : goal.invariant-numbers
invariant-numbers g l = sum_all l.numbers.entries < 2 ^ 64 → l.total + sum_all l.steps-iterator ≡ sum_all l.numbers.entries
