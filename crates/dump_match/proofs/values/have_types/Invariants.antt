use Rattle.std.proofs.Common.{◌≡◌, drop}
use Rattle.dump_match.specs.Values.{have_types}
use Rattle.dump_match.proofs.values.have_types.Given as goal

abbrev pub invariant-loop-i : goal.invariant-loop-i
invariant-loop-i l = have_types (drop l.i l.types) (drop l.i l.values) ≡ have_types l.types l.values
