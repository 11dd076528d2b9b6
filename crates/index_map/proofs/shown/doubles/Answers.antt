use Rattle.std.proofs.Common.{◌<◌, ◌^◌, List, ℕ, map, sym, subst}
use Rattle.std.specs.Prelude.{sum}
use Rattle.rewrite_bodies.specs.Numbering.{entry_weight}
use Rattle.index_map.proofs.shown.doubles.Goals as goal

pub table_weight-requires-clause-globals : goal.table_weight-requires-clause-globals
table_weight-requires-clause-globals c = c.requires.can.few.globals

pub table_weight-requires-clause-wrappers : goal.table_weight-requires-clause-wrappers
table_weight-requires-clause-wrappers c = subst (λ (fs : List ℕ). sum (map (entry_weight c.args.parts.now) fs) < 2 ^ 63) (sym c.requires.functions) c.requires.can.wrappers_light

pub table_weight-requires-clause-places : goal.table_weight-requires-clause-places
table_weight-requires-clause-places c = c.requires.can.places_few
