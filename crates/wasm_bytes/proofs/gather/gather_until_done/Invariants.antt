use Rattle.std.proofs.Common.{◌≡◌, ◌-◌, ◌+◌, ◌≤◌, ℕ, length}
use Rattle.wasm_bytes.specs.Place.{Stays}
use Rattle.wasm_bytes.specs.Reading.{steps_while_due}
use Rattle.wasm_bytes.proofs.gather.gather_until_done.Given as goal

abbrev pub invariant-elements : goal.invariant-elements
invariant-elements g l = record {
  so_far : (n : ℕ) × (length l.reader.block + 1 - l.reader.at ≤ n) × (steps_while_due g.S.GatherUntilDone.done g.S.Gather.step (length l.initial.reader.block + 1 - l.initial.reader.at) l.initial.state l.initial.reader ≡ steps_while_due g.S.GatherUntilDone.done g.S.Gather.step n l.state l.reader);
  stays : Stays l.initial.reader l.reader;
}

abbrev pub decreases-elements : goal.decreases-elements
decreases-elements g l = length l.reader.block + 1 - l.reader.at
