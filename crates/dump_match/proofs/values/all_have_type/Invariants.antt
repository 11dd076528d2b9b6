use Rattle.std.proofs.Common.{◌≡◌, ◌-◌, length, replicate, drop}
use Rattle.dump_match.specs.Values.{have_types}
use Rattle.dump_match.proofs.values.all_have_type.Given as goal

abbrev pub invariant-loop-i : goal.invariant-loop-i
invariant-loop-i l = have_types (replicate (length l.values - l.i) l.t) (drop l.i l.values) ≡ have_types (replicate (length l.values) l.t) l.values
