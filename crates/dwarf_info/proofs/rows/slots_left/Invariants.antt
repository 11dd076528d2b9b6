use Rattle.std.proofs.Common.{◌≡◌, ◌+◌, ◌-◌, ◌≤◌, ℕ, length}
use Rattle.wasm_bytes.specs.Place.{Stays}
use Rattle.wasm_bytes.specs.Reading.{◌>>=◌}
use Rattle.wasm_bytes.proofs.Loops.{in_front}
use Rattle.dwarf_bytes.specs.Items.{ended_from}
use Rattle.dwarf_info.proofs.rows.slots_left.Given as goal

abbrev pub invariant-slots : goal.invariant-slots
invariant-slots g l = record {
  so_far : (n : ℕ) × (length l.reader.block + 1 - l.reader.at ≤ n) × (ended_from g.V.UnitVersion.pair (length l.initial.reader.block + 1 - l.initial.reader.at) l.initial.reader ≡ (ended_from g.V.UnitVersion.pair n l.reader >>= in_front l.slots));
  stays : Stays l.initial.reader l.reader;
}

abbrev pub decreases-slots : goal.decreases-slots
decreases-slots g l = length l.reader.block + 1 - l.reader.at
