use Rattle.std.proofs.Common.{◌≡◌, map, drop}
use Rattle.index_map.specs.Limits.{first_over}
use Rattle.index_map.proofs.limits.first_over.Given as goal

abbrev pub invariant-loop-item : goal.invariant-loop-item
invariant-loop-item g l = first_over l.what (map g.T.Counted.count l.items) ≡ first_over l.what (map g.T.Counted.count (drop l.item-index l.item-items))
