use Rattle.std.proofs.Common.{◌≤◌, ◌-◌, length}
use Rattle.wasm_validate.specs.calls.Whole.{BodiesUpTo, MarkedUpTo}
use Rattle.wasm_validate.proofs.bodies.check_bodies.Given as goal

abbrev pub invariant-loop-i : goal.invariant-loop-i
invariant-loop-i l = record { within : l.i ≤ length l.m.bodies; fine : BodiesUpTo l.m l.i; marked : MarkedUpTo l.all l.m l.i }

abbrev pub decreases-loop-i : goal.decreases-loop-i
decreases-loop-i l = length l.m.bodies - l.i
