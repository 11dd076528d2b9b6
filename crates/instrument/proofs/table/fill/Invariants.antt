use Rattle.std.proofs.Common.{◌≡◌, drop, take, length}
use Rattle.std.specs.Prelude.{fold}
use Rattle.wasm_syntax.specs.calls.Starting.{put_element}
use Rattle.instrument.proofs.table.fill.Given as goal

abbrev pub invariant-loop-element : goal.invariant-loop-element
invariant-loop-element l = record {
  size : length l.table ≡ length l.initial.table;
  goes_on : take (length l.initial.table) (fold (put_element l.fn.m) l.table (drop l.element-index l.elements)) ≡ take (length l.initial.table) (fold (put_element l.fn.m) l.initial.table l.elements);
}
