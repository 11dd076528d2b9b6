use Rattle.std.proofs.Common.{◌≡◌, drop}
use Rattle.wasm_bytes.specs.Place.{Stays}
use Rattle.wasm_bytes.specs.Reading.{bytes_item}
use Rattle.wasm_bytes.proofs.reader.Reader.bytes.Given as goal

abbrev pub invariant-loop-byte : goal.invariant-loop-byte
invariant-loop-byte l = record {
  so_far : bytes_item l.expected l.initial.self ≡ bytes_item (drop l.byte-index l.expected) l.self;
  stays : Stays l.initial.self l.self;
}
