use Rattle.std.proofs.Common.{◌≡◌, drop}
use Rattle.rewrite_bodies.specs.Numbering.{table_shown}
use Rattle.index_map.proofs.shown.table_shown.Given as goal

abbrev pub invariant-loop-export : goal.invariant-loop-export
invariant-loop-export l = table_shown l.exports ≡ table_shown (drop l.export-index l.exports)
