use Rattle.std.proofs.Common.{◌≡◌, ◌≤◌, ℕ, ◌+◌, ◌++◌}
use Rattle.std.specs.List.{flat_map, range_with_len}
use Rattle.selftest_command.specs.Selftest.{number, mixed}
use Rattle.selftest_command.proofs.code.push_mixing.Given as goal

abbrev pub invariant-loop-made : goal.invariant-loop-made
invariant-loop-made l = record {
  within : l.made ≤ 16;
  mixes : (n k : ℕ) → l.initial.r ≡ number n k → (l.code ≡ l.initial.code ++ flat_map (λ j. mixed (number n j)) (range_with_len (k + 1) l.made)) × (l.r ≡ number n (k + l.made));
}
