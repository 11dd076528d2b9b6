use Rattle.std.proofs.Common.{◌≡◌, ◌-◌}
use Rattle.wasm_bytes.specs.Place.{Stays}
use Rattle.wasm_bytes.specs.Reading.{◌>>=◌, items_from}
use Rattle.wasm_bytes.proofs.Loops.{in_front}
use Rattle.dwarf5_line.specs.Entries.{entry_item}
use Rattle.dwarf5_line.specs.Layout5.{texts_of}
use Rattle.dwarf5_line.proofs.entries.entries_of.Given as goal

abbrev pub invariant-loop : goal.invariant-loop
invariant-loop l = record {
  so_far : items_from (entry_item (texts_of l.sections) l.pairs) l.count l.initial.reader ≡ (items_from (entry_item (texts_of l.sections) l.pairs) (l.count - l.counter) l.reader >>= in_front l.files);
  stays : Stays l.initial.reader l.reader;
}
