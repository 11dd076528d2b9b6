use Rattle.std.proofs.Common.{◌≡◌, ◌-◌, ◌≤◌, ℕ, length}
use Rattle.wasm_bytes.specs.Place.{Stays}
use Rattle.wasm_bytes.specs.Reading.{◌>>=◌, until_end}
use Rattle.wasm_bytes.proofs.Loops.{in_front}
use Rattle.wasm_bytes.proofs.item.items_left.Given as goal

abbrev pub invariant-items : goal.invariant-items
invariant-items g l = record {
  so_far : (n : ℕ) × (length l.reader.block - l.reader.at ≤ n) × (until_end g.T.Item.item (length l.initial.reader.block - l.initial.reader.at) l.initial.reader ≡ (until_end g.T.Item.item n l.reader >>= in_front l.items.items));
  stays : Stays l.initial.reader l.reader;
}

abbrev pub decreases-items : goal.decreases-items
decreases-items g l = length l.reader.block - l.reader.at
