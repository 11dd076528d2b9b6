use Rattle.std.proofs.Common.{ℕ, ◌≤◌, ◌++◌, List, length, drop, flat_map}
use Rattle.index_map.specs.inner.Used.{HasMet, ops_used}
use Rattle.index_map.proofs.used.meet_bodies.Given as goal

abbrev pub invariant-loop-i : goal.invariant-loop-i
invariant-loop-i l = record {
  within : l.i ≤ length l.bodies;
  so_far : ((us : List ℕ) → HasMet us l.initial.met.items l.initial.places → HasMet (flat_map (λ b. ops_used b.ops) (drop l.i l.bodies) ++ us) l.met.items l.places);
}

abbrev pub decreases-loop-i : goal.decreases-loop-i
decreases-loop-i l = l.i
