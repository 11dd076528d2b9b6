use Rattle.std.proofs.Common.{◌≡◌, ◌+◌, ◌-◌, ◌≤◌, ℕ, length}
use Rattle.wasm_bytes.specs.Place.{Stays}
use Rattle.wasm_bytes.specs.Reading.{◌>>=◌}
use Rattle.wasm_bytes.proofs.Loops.{in_front}
use Rattle.dwarf_bytes.specs.Items.{ended_from}
use Rattle.dwarf_bytes.proofs.ended.ended_left.Given as goal

abbrev pub invariant-items : goal.invariant-items
invariant-items g l = record {
  so_far : (n : ℕ) × (length l.reader.block + 1 - l.reader.at ≤ n) × (ended_from g.T.Ended.item (length l.initial.reader.block + 1 - l.initial.reader.at) l.initial.reader ≡ (ended_from g.T.Ended.item n l.reader >>= in_front l.items.items));
  stays : Stays l.initial.reader l.reader;
}

abbrev pub decreases-items : goal.decreases-items
decreases-items g l = length l.reader.block + 1 - l.reader.at
