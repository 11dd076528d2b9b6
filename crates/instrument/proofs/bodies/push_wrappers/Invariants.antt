use Rattle.std.proofs.Common.{take}
use Rattle.instrument.specs.inner.Adding.{Adds, wrapper_bodies}
use Rattle.instrument.proofs.bodies.push_wrappers.Given as goal

abbrev pub invariant-loop-function : goal.invariant-loop-function
invariant-loop-function l = Adds (take l.function-index (wrapper_bodies l.numbers)) l.initial.out l.out
