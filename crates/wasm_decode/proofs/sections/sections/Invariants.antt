use Rattle.std.proofs.Common.{◌≡◌, ◌-◌, ◌≤◌, ℕ, length}
use Rattle.wasm_bytes.specs.Place.{Stays}
use Rattle.wasm_bytes.specs.Reading.{steps_until_end}
use Rattle.wasm_format.specs.Sections.{section_step}
use Rattle.wasm_decode.proofs.sections.sections.Given as goal

abbrev pub invariant-sections : goal.invariant-sections
invariant-sections l = record {
  so_far : (n : ℕ) × (length l.input.block - l.input.at ≤ n) × (steps_until_end section_step (length l.initial.input.block - l.initial.input.at) l.initial.spelled l.initial.input ≡ steps_until_end section_step n l.spelled l.input);
  stays : Stays l.initial.input l.input;
  counted : l.spelled.parts.plain_bytes ≤ l.input.at;
}

abbrev pub decreases-sections : goal.decreases-sections
decreases-sections l = length l.input.block - l.input.at
