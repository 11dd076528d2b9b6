use Rattle.std.proofs.Common.{◌≡◌, ◌-◌}
use Rattle.wasm_bytes.specs.Place.{Stays}
use Rattle.wasm_bytes.specs.Reading.{◌>>=◌, items_from}
use Rattle.wasm_bytes.proofs.Loops.{in_front}
use Rattle.wasm_bytes.proofs.item.items_of.Given as goal

abbrev pub invariant-loop : goal.invariant-loop
invariant-loop g l = record {
  so_far : items_from g.T.Item.item l.count (g.R.Cursor.place l.initial.reader) ≡ (items_from g.T.Item.item (l.count - l.counter) (g.R.Cursor.place l.reader) >>= in_front l.items.items);
  stays : Stays (g.R.Cursor.place l.initial.reader) (g.R.Cursor.place l.reader);
}
