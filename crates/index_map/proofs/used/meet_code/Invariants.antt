use Rattle.std.proofs.Common.{ℕ, ◌≤◌, ◌++◌, List, length, drop, flat_map}
use Rattle.rewrite_modules.specs.Weight.{type_used}
use Rattle.index_map.specs.inner.Used.{HasMet}
use Rattle.index_map.proofs.used.meet_code.Given as goal

abbrev pub invariant-loop-i : goal.invariant-loop-i
invariant-loop-i l = record {
  within : l.i ≤ length l.ops;
  so_far : ((us : List ℕ) → HasMet us l.initial.met.items l.initial.places → HasMet (flat_map (λ o. type_used o.code) (drop l.i l.ops) ++ us) l.met.items l.places);
}

abbrev pub decreases-loop-i : goal.decreases-loop-i
decreases-loop-i l = l.i
