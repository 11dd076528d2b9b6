use Rattle.std.proofs.Common.{◌≡◌, ◌+◌, drop, map}
use Rattle.std.specs.Prelude.{sum}
use Rattle.rewrite_bodies.specs.Numbering.{entry_weight}
use Rattle.index_map.proofs.shown.wrappers_weight.Given as goal

abbrev pub invariant-loop-function : goal.invariant-loop-function
invariant-loop-function l = l.sum + sum (map (entry_weight l.fn.parts) (drop l.function-index l.functions)) ≡ sum (map (entry_weight l.fn.parts) l.functions)
