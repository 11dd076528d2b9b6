use Rattle.std.proofs.Common.{take}
use Rattle.std.specs.Ordering.{nat_cmp}
use Rattle.std.specs.BTreeMap.{get}
use Rattle.dwarf_abbrev.specs.calls.Places.{IsPlaced}
use Rattle.dwarf_abbrev.proofs.table.places_of.Given as goal

abbrev pub invariant-items : goal.invariant-items
invariant-items g l = IsPlaced g.T.Coded.code (take l.place l.items) (get nat_cmp l.places)
