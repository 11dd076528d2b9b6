use Rattle.std.proofs.Common.{◌≡◌, ◌-◌, ◌+◌, ◌≤◌, ℕ, length}
use Rattle.wasm_bytes.specs.Place.{Stays}
use Rattle.wasm_bytes.specs.Reading.{steps_while_due}
use Rattle.wasm_format.specs.Expressions.{instr_step, is_closed}
use Rattle.wasm_decode.proofs.expression.take_instrs.Given as goal

abbrev pub invariant-instrs : goal.invariant-instrs
invariant-instrs l = record {
  so_far : (n : ℕ) × (length l.input.block + 1 - l.input.at ≤ n) × (steps_while_due is_closed instr_step (length l.initial.input.block + 1 - l.initial.input.at) l.initial.expression l.initial.input ≡ steps_while_due is_closed instr_step n l.expression l.input);
  stays : Stays l.initial.input l.input;
  few : length l.expression.targets ≤ l.input.at;
}

abbrev pub decreases-instrs : goal.decreases-instrs
decreases-instrs l = length l.input.block + 1 - l.input.at
