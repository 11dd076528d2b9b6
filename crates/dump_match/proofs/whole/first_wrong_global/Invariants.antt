use Rattle.std.proofs.Common.{ℕ, ◌<◌}
use Rattle.dump_match.specs.Matching.{GlobalFits}
use Rattle.dump_match.proofs.whole.first_wrong_global.Given as goal

abbrev pub invariant-loop-i : goal.invariant-loop-i
invariant-loop-i l = (j : ℕ) → j < l.i → GlobalFits l.m l.dump j l.one
