use Rattle.std.proofs.Common.{◌≡◌, ◌+◌, drop}
use Rattle.rewrite_modules.specs.Weight.{exports_weight}
use Rattle.index_map.proofs.weights.exports_weight.Given as goal

abbrev pub invariant-loop-export : goal.invariant-loop-export
invariant-loop-export l = l.sum + exports_weight l.parts (drop l.export-index l.parts.exports) ≡ exports_weight l.parts l.parts.exports
