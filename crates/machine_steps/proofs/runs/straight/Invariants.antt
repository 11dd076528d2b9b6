use Rattle.std.proofs.Common.{◌≡◌, ◌≤◌, ◌<◌, ◌-◌, ◌+◌, ◌^◌, ℕ, length}
use Rattle.std.specs.Prelude.{slice_get, Some, take, drop}
use Rattle.wasm_syntax.specs.Machine.{Engine, Config}
use Rattle.machine_code.specs.declared.prepared.Prepared.{Prepared}
use Rattle.machine_steps.specs.declared.machine.Machine.{Machine}
use Rattle.machine_steps.specs.calls.Runs.{Begins, Reached}
use Rattle.machine_steps.specs.inner.Turns.{Ran, placed}
use Rattle.machine_steps.proofs.runs.straight.Given as goal

abbrev pub invariant-loop-op : goal.invariant-loop-op
invariant-loop-op g l = record {
  part : take (l.initial.left - (l.count - length l.rest)) (drop (l.start + (l.count - length l.rest)) l.ops) ≡ l.rest;
  shorter : length l.rest ≤ l.count;
  within : l.start + (l.count - length l.rest) < 2 ^ 64;
  few : l.count - length l.rest ≤ l.initial.left;
  kept : l.left ≡ l.initial.left;
  frames : l.m.stack.frames ≡ l.initial.m.stack.frames;
  watched : l.watch ≡ l.initial.watch;
  so_far : (prepared : Prepared) (depth n : ℕ) (first : Machine) → slice_get prepared.codes.items l.fn.innermost.frame.function ≡ Some l.fn.innermost.code.now
      → ((M : Engine) (c : Config) → Begins M prepared depth c first → Reached M prepared.codes.items c n l.initial.m)
      → Ran prepared depth first n l.fn.innermost.frame.function l.start (l.count - length l.rest) (placed (l.start + (l.count - length l.rest)) l.m);
}

abbrev pub decreases-loop-op : goal.decreases-loop-op
decreases-loop-op g l = length l.rest
