use Rattle.std.proofs.Common.{◌≡◌, ◌≤◌, ◌+◌, ◌-◌, ◌++◌, length, drop}
use Rattle.wasm_syntax.specs.Module.{declared_locals}
use Rattle.validate_body.specs.inner.Locals.{ends}
use Rattle.validate_body.proofs.locals.ends_of.Given as goal

abbrev pub invariant-loop-i : goal.invariant-loop-i
invariant-loop-i l = record {
  within : l.i ≤ length l.groups;
  room : l.end + length (declared_locals (drop l.i l.groups)) ≡ length (declared_locals l.groups);
  so_far : l.ends.items ++ ends l.end (drop l.i l.groups) ≡ ends 0 l.groups;
}

abbrev pub decreases-loop-i : goal.decreases-loop-i
decreases-loop-i l = length l.groups - l.i
