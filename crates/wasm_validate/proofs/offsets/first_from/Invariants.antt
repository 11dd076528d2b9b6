use Rattle.std.proofs.Common.{◌≡◌, ◌≤◌, ◌<◌, ◌-◌, length, slice_get}
use Rattle.std.specs.Prelude.{Some}
use Rattle.wasm_syntax.specs.declared.instruction.Op.{Op}
use Rattle.wasm_validate.proofs.offsets.first_from.Given as goal

abbrev pub invariant-loop-low : goal.invariant-loop-low
invariant-loop-low l = record {
  order : l.low ≤ l.high;
  within : l.high ≤ length l.ops;
  under : (o : Op) → 0 < l.low → slice_get l.ops (l.low - 1) ≡ Some o → o.at < l.at;
  over : (o : Op) → slice_get l.ops l.high ≡ Some o → l.at ≤ o.at;
}

abbrev pub decreases-loop-low : goal.decreases-loop-low
decreases-loop-low l = l.high - l.low
