use Rattle.std.proofs.Common.{◌≡◌, ◌+◌, length}
use Rattle.wasm_bytes.specs.Place.{Stays}
use Rattle.wasm_bytes.specs.Reading.{◌>>=◌}
use Rattle.wasm_bytes.proofs.Loops.{in_front}
use Rattle.dwarf_abbrev.specs.calls.Shared.{list_of}
use Rattle.dwarf_info.specs.inner.Joined.{own_slots}
use Rattle.dwarf_info.specs.inner.Kept.{Begins}
use Rattle.dwarf_info.specs.inner.Reading.{own_item}
use Rattle.dwarf_info.specs.inner.Contexts.{seen}
use Rattle.dwarf_info.proofs.entries.read_own.Given as goal

abbrev pub invariant-slots : goal.invariant-slots
invariant-slots g l = record {
  so_far : own_item (seen g.V.UnitVersion.version g.V.UnitVersion.looked l.fn.context) (own_slots (list_of l.lists l.start)) l.initial.reader ≡ (own_item (seen g.V.UnitVersion.version g.V.UnitVersion.looked l.fn.context) (own_slots (list_of l.lists l.list)) l.reader >>= in_front l.own.items);
  begins : Begins (list_of l.lists l.list);
  count : length l.own.items + length (own_slots (list_of l.lists l.list)) ≡ length (own_slots (list_of l.lists l.start));
  stays : Stays l.initial.reader l.reader;
}

abbrev pub decreases-slots : goal.decreases-slots
decreases-slots g l = length (own_slots (list_of l.lists l.list))
