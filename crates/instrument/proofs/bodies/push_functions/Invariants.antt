use Rattle.std.proofs.Common.{take}
use Rattle.rewrite_promise.specs.calls.Promise.{Accepted}
use Rattle.instrument.specs.inner.Adding.{Adds, new_bodies}
use Rattle.instrument.proofs.bodies.push_functions.Given as goal

abbrev pub invariant-loop-i : goal.invariant-loop-i
invariant-loop-i l = (a : Accepted l.source) → Adds (take l.i (new_bodies l.source a)) l.initial.out l.out
