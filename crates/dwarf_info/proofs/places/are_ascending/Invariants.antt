use Rattle.std.proofs.Common.{◌≡◌, drop}
use Rattle.dwarf_info.specs.inner.Ascending.{ascends_from}
use Rattle.dwarf_info.proofs.places.are_ascending.Given as goal

abbrev pub invariant-loop-entry : goal.invariant-loop-entry
invariant-loop-entry l = ascends_from l.reached (drop l.entry-index l.entries) ≡ ascends_from 0 l.entries
