use Rattle.std.proofs.Common.{◌≡◌, ◌-◌, ◌≤◌, ℕ, length}
use Rattle.wasm_bytes.specs.Place.{Stays}
use Rattle.wasm_bytes.specs.Reading.{◌>>=◌, until_end}
use Rattle.wasm_bytes.proofs.Loops.{in_front}
use Rattle.dwarf_info.specs.Units.{answer_item}
use Rattle.dwarf_info.proofs.answers.answers_left.Given as goal

abbrev pub invariant-units : goal.invariant-units
invariant-units g l = record {
  so_far : (n : ℕ) × (length l.reader.block - l.reader.at ≤ n) × (until_end (answer_item l.fn.sections g.W.UnitVersions.versions) (length l.initial.reader.block - l.initial.reader.at) l.initial.reader ≡ (until_end (answer_item l.fn.sections g.W.UnitVersions.versions) n l.reader >>= in_front l.units));
  stays : Stays l.initial.reader l.reader;
  ready : g.W.UnitVersions.is_ready l.fn.sections l.versions;
}

abbrev pub decreases-units : goal.decreases-units
decreases-units g l = length l.reader.block - l.reader.at
