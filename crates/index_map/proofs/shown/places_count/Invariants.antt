use Rattle.std.proofs.Common.{◌≡◌, ◌+◌, drop, flat_map, length}
use Rattle.index_map.proofs.shown.places_count.Given as goal

abbrev pub invariant-loop-element : goal.invariant-loop-element
invariant-loop-element l = l.sum + length (flat_map (λ e. e.functions) (drop l.element-index l.elements)) ≡ length (flat_map (λ e. e.functions) l.elements)
