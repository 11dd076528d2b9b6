use Rattle.std.proofs.Common.{take}
use Rattle.instrument.specs.inner.Adding.{Adds, helper_bodies}
use Rattle.instrument.proofs.bodies.push_helpers.Given as goal

abbrev pub invariant-loop-ftype : goal.invariant-loop-ftype
invariant-loop-ftype l = Adds (take l.ftype-index (helper_bodies l.numbers)) l.initial.out l.out
