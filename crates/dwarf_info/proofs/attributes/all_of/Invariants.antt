use Rattle.std.proofs.Common.{◌≡◌, ◌++◌, drop, length}
use Rattle.dwarf_abbrev.specs.calls.Shared.{list_of}
use Rattle.dwarf_info.specs.inner.Joined.{joined}
use Rattle.dwarf_info.proofs.attributes.all_of.Given as goal

abbrev pub invariant-slots : goal.invariant-slots
invariant-slots l = l.all ++ joined (list_of l.lists l.list) (drop l.count l.own) ≡ joined (list_of l.lists l.start) l.own

abbrev pub decreases-slots : goal.decreases-slots
decreases-slots l = length (list_of l.lists l.list)
