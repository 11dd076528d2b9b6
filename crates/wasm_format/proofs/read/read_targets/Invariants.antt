use Rattle.std.proofs.Common.{◌≡◌, ◌+◌, ◌-◌, ◌≤◌, length}
use Rattle.wasm_bytes.specs.Place.{Stays}
use Rattle.wasm_bytes.specs.Reading.{◌>>=◌, u32_item, items_from}
use Rattle.wasm_bytes.proofs.Loops.{in_front}
use Rattle.wasm_format.specs.Reading.{more_targets}
use Rattle.wasm_format.proofs.read.read_targets.Given as goal

abbrev pub invariant-targets : goal.invariant-targets
invariant-targets l = record {
  so_far : more_targets l.initial.targets l.count l.initial.reader ≡ (items_from u32_item (l.count - l.counter) l.reader >>= in_front l.targets);
  stays : Stays l.initial.reader l.reader;
  counted : length l.targets ≡ length l.initial.targets + l.counter;
  bounded : l.counter + l.initial.reader.at ≤ l.reader.at;
  within : l.counter ≤ l.count;
}
