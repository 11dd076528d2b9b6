use Rattle.std.proofs.Common.{◌≡◌, ◌-◌}
use Rattle.wasm_bytes.specs.Place.{Stays}
use Rattle.wasm_bytes.specs.Reading.{◌>>=◌, items_from}
use Rattle.wasm_bytes.proofs.Loops.{in_front}
use Rattle.dwarf_bytes.specs.Format.{read}
use Rattle.dwarf5_line.specs.Entries.{pair}
use Rattle.dwarf5_line.proofs.entries.pairs_of.Given as goal

abbrev pub invariant-loop : goal.invariant-loop
invariant-loop l = record {
  so_far : items_from (read pair) l.count l.initial.reader ≡ (items_from (read pair) (l.count - l.counter) l.reader >>= in_front l.pairs);
  stays : Stays l.initial.reader l.reader;
}
