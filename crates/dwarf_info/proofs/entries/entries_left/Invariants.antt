use Rattle.std.proofs.Common.{◌≡◌, ◌+◌, ◌-◌, ◌≤◌, ℕ, length}
use Rattle.wasm_bytes.specs.Place.{Stays}
use Rattle.wasm_bytes.specs.Reading.{steps_while_due}
use Rattle.dwarf_info.specs.Entries.{step_item, is_whole}
use Rattle.dwarf_info.specs.inner.Contexts.{seen}
use Rattle.dwarf_info.proofs.entries.entries_left.Given as goal

abbrev pub invariant-entries : goal.invariant-entries
invariant-entries g l = record {
  so_far : (n : ℕ) × (length l.reader.block + 1 - l.reader.at ≤ n) × (steps_while_due is_whole (step_item (seen g.V.UnitVersion.version g.V.UnitVersion.looked l.fn.context)) (length l.initial.reader.block + 1 - l.initial.reader.at) l.initial.growing l.initial.reader ≡ steps_while_due is_whole (step_item (seen g.V.UnitVersion.version g.V.UnitVersion.looked l.fn.context)) n l.growing l.reader);
  stays : Stays l.initial.reader l.reader;
  depth : l.growing.depth ≤ l.reader.at;
}

abbrev pub decreases-entries : goal.decreases-entries
decreases-entries g l = length l.reader.block + 1 - l.reader.at
