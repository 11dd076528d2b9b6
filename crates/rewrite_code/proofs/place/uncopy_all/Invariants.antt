use Rattle.std.proofs.Common.{◌≡◌, ◌++◌, map}
use Rattle.std.specs.Prelude.{take, drop}
use Rattle.rewrite_bodies.specs.calls.Slots.{uncopied}
use Rattle.rewrite_code.specs.calls.Places.{place, these}
use Rattle.rewrite_code.proofs.place.uncopy_all.Given as goal

abbrev pub invariant-loop-operand : goal.invariant-loop-operand
invariant-loop-operand l = record {
  so_far : map place l.operands ≡ take l.operand-index (map (uncopied (these l.meant)) (map place l.initial.operands)) ++ drop l.operand-index (map place l.initial.operands);
}
