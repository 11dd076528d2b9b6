use Rattle.std.proofs.Common.{◌≡◌, drop, map}
use Rattle.rewrite_bodies.specs.Numbering.{all_true, can_double}
use Rattle.index_map.proofs.shown.tables_can_double.Given as goal

abbrev pub invariant-loop-limits : goal.invariant-loop-limits
invariant-loop-limits l = all_true (map can_double l.fn.tables) ≡ all_true (map can_double (drop l.limits-index l.fn.tables))
