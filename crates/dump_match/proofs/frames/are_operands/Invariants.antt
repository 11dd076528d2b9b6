use Rattle.std.proofs.Common.{◌≡◌, ◌++◌, drop, take, reverse}
use Rattle.dump_match.specs.Values.{have_types}
use Rattle.dump_match.specs.inner.Stands.{Stands}
use Rattle.dump_match.proofs.frames.are_operands.Given as goal

abbrev pub invariant-loop-i : goal.invariant-loop-i
invariant-loop-i l = (st : Stands l.m l.frame l.stand) → have_types (drop l.i (take l.count (reverse (st.spot.here ++ st.spot.outside)))) (drop l.i l.values) ≡ have_types (take l.count (reverse (st.spot.here ++ st.spot.outside))) l.values
