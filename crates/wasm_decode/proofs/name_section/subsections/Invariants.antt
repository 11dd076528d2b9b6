use Rattle.std.proofs.Common.{◌≡◌, ◌-◌, ◌≤◌, ℕ, length}
use Rattle.wasm_bytes.specs.Place.{Stays}
use Rattle.wasm_bytes.specs.Reading.{steps_until_end}
use Rattle.wasm_decode.specs.Names.{subsection_step}
use Rattle.wasm_decode.proofs.name_section.subsections.Given as goal

abbrev pub invariant-subsections : goal.invariant-subsections
invariant-subsections l = record {
  so_far : (n : ℕ) × (length l.input.block - l.input.at ≤ n) × (steps_until_end subsection_step (length l.initial.input.block - l.initial.input.at) l.initial.found l.initial.input ≡ steps_until_end subsection_step n l.found l.input);
  stays : Stays l.initial.input l.input;
}

abbrev pub decreases-subsections : goal.decreases-subsections
decreases-subsections l = length l.input.block - l.input.at
