use Rattle.std.proofs.Common.{◌≡◌, ◌++◌, map, take}
use Rattle.instrument.proofs.functions.push_helpers.Given as goal

abbrev pub invariant-loop : goal.invariant-loop
invariant-loop l = l.out ≡ l.initial.out ++ map (λ u. l.ftype) (take l.index l.helped)
