use Rattle.std.proofs.Common.{◌≡◌, ◌++◌, drop}
use Rattle.dwarf_scopes.specs.calls.Numbered.{ranges_from}
use Rattle.debug_frames.specs.inner.Placing.{held_by}
use Rattle.debug_frames.proofs.held.ranges_of.Given as goal

abbrev pub invariant-sequences : goal.invariant-sequences
invariant-sequences l = l.ranges.items ++ ranges_from held_by l.number (drop l.number l.sequences) ≡ ranges_from held_by 0 l.sequences
