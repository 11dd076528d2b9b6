-- What is known of arrays by the offsets of their entries.
use Rattle.std.specs.Prelude.{ℕ, List, IfSome}
use Rattle.std.specs.Ordering.{nat_cmp}
use Rattle.std.specs.BTreeMap.{get}
use Rattle.dwarf_info.specs.declared.entry.UnitAnswer.{UnitAnswer}
use Rattle.dwarf_entries.specs.Standing.{standing_at}
use Rattle.dwarf_types.specs.calls.Subranges.{AreOf}
use Rattle.dwarf_types.specs.declared.arrays.Arrays.{Arrays}

-- each is of the entry at its offset
abbrev pub AreKnown : List UnitAnswer → Arrays → Type 0
AreKnown units arrays = (at : ℕ) → IfSome (get nat_cmp arrays.known at) (AreOf (standing_at units at))
