use Rattle.std.proofs.Common.{◌≡◌, ◌≤◌, drop, length}
use Rattle.dwarf_abbrev.specs.calls.Shared.{list_of}
use Rattle.dwarf_info.proofs.slots.add_slots.Given as goal

abbrev pub invariant-slots : goal.invariant-slots
invariant-slots l = record {
  made : list_of l.lists l.list ≡ drop l.left l.slots;
  there : l.list ≤ length l.lists;
  inside : l.left ≤ length l.slots;
}

abbrev pub decreases-slots : goal.decreases-slots
decreases-slots l = l.left
