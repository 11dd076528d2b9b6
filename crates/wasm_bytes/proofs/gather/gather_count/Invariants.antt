use Rattle.std.proofs.Common.{◌≡◌, ◌-◌}
use Rattle.wasm_bytes.specs.Place.{Stays}
use Rattle.wasm_bytes.specs.Reading.{steps_from}
use Rattle.wasm_bytes.proofs.gather.gather_count.Given as goal

abbrev pub invariant-loop : goal.invariant-loop
invariant-loop g l = record {
  so_far : steps_from g.S.Gather.step l.count l.initial.state (g.R.Cursor.place l.initial.reader) ≡ steps_from g.S.Gather.step (l.count - l.counter) l.state (g.R.Cursor.place l.reader);
  stays : Stays (g.R.Cursor.place l.initial.reader) (g.R.Cursor.place l.reader);
}
