use Rattle.std.proofs.Common.{◌≡◌, ◌+◌, drop}
use Rattle.rewrite_modules.specs.Weight.{bodies_weight}
use Rattle.index_map.proofs.weights.bodies_weight.Given as goal

abbrev pub invariant-loop-i : goal.invariant-loop-i
invariant-loop-i l = l.sum + bodies_weight l.parts l.heights l.i (drop l.i l.bodies) ≡ bodies_weight l.parts l.heights 0 l.bodies
