use Rattle.std.proofs.Common.{◌≡◌, ◌-◌, ◌+◌, ◌≤◌, ℕ, length}
use Rattle.wasm_bytes.specs.Place.{Stays}
use Rattle.wasm_bytes.specs.Reading.{mapped}
use Rattle.dwarf_bytes.specs.Items.{ended_from}
use Rattle.dwarf_loc.specs.inner.Search.{sought}
use Rattle.dwarf_loc.specs.Lists.{chosen}
use Rattle.dwarf_loc.proofs.search.chosen.Given as goal

abbrev pub invariant-entries : goal.invariant-entries
invariant-entries g l = record {
  so_far : (n : ℕ) × (length l.reader.block + 1 - l.reader.at ≤ n) × (mapped (chosen l.initial.base l.initial.address) (ended_from (g.E.Entries.item l.initial.entries) (length l.initial.reader.block + 1 - l.initial.reader.at)) l.initial.reader ≡ mapped (sought l.search) (ended_from (g.E.Entries.item l.initial.entries) n) l.reader);
  stays : Stays l.initial.reader l.reader;
}

abbrev pub decreases-entries : goal.decreases-entries
decreases-entries g l = length l.reader.block + 1 - l.reader.at
