use Rattle.std.proofs.Common.{◌≡◌, ℕ, ◌≤◌, ◌++◌, List, length, drop, flat_map}
use Rattle.wasm_syntax.specs.declared.module.ModuleParts.{ModuleParts as Module}
use Rattle.rewrite_bodies.specs.Numbering.{defines}
use Rattle.index_map.specs.inner.Used.{HasMet}
use Rattle.index_map.proofs.shown.meet_elements.Given as goal

abbrev pub invariant-loop-i : goal.invariant-loop-i
invariant-loop-i l = record {
  within : l.i ≤ length l.elements;
  so_far : ((us : List ℕ) (m : Module) → length m.imports ≡ l.imports → HasMet us l.initial.met.items l.initial.places → HasMet (flat_map (λ e. flat_map (defines m) e.functions) (drop l.i l.elements) ++ us) l.met.items l.places);
}

abbrev pub decreases-loop-i : goal.decreases-loop-i
decreases-loop-i l = l.i
