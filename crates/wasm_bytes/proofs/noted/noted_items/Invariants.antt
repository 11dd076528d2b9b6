use Rattle.std.proofs.Common.{◌≡◌, ◌-◌}
use Rattle.wasm_bytes.specs.Place.{Stays}
use Rattle.wasm_bytes.specs.Reading.{steps_from}
use Rattle.wasm_bytes.specs.calls.NotedSteps.{noted_step}
use Rattle.wasm_bytes.proofs.noted.noted_items.Given as goal

abbrev pub invariant-loop : goal.invariant-loop
invariant-loop g l = record {
  so_far : steps_from (noted_step g.T.Noting.item) l.count l.initial.noted (g.R.Cursor.place l.initial.reader) ≡ steps_from (noted_step g.T.Noting.item) (l.count - l.counter) l.noted (g.R.Cursor.place l.reader);
  stays : Stays (g.R.Cursor.place l.initial.reader) (g.R.Cursor.place l.reader);
}
