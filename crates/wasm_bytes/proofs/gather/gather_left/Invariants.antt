use Rattle.std.proofs.Common.{◌≡◌, ◌-◌, ◌≤◌, ℕ, length}
use Rattle.wasm_bytes.specs.Place.{Stays}
use Rattle.wasm_bytes.specs.Reading.{steps_until_end}
use Rattle.wasm_bytes.proofs.gather.gather_left.Given as goal

abbrev pub invariant-elements : goal.invariant-elements
invariant-elements g l = record {
  so_far : (n : ℕ) × (length l.reader.block - l.reader.at ≤ n) × (steps_until_end g.S.Gather.step (length l.initial.reader.block - l.initial.reader.at) l.initial.state l.initial.reader ≡ steps_until_end g.S.Gather.step n l.state l.reader);
  stays : Stays l.initial.reader l.reader;
}

abbrev pub decreases-elements : goal.decreases-elements
decreases-elements g l = length l.reader.block - l.reader.at
