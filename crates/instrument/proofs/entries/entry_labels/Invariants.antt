use Rattle.std.proofs.Common.{◌≡◌, map, take}
use Rattle.rewrite_bodies.specs.calls.Guards.{entry_label}
use Rattle.instrument.proofs.entries.entry_labels.Given as goal

abbrev pub invariant-loop-entry : goal.invariant-loop-entry
invariant-loop-entry l = l.labels ≡ map (entry_label l.parts l.ftype) (take l.entry-index l.table)
