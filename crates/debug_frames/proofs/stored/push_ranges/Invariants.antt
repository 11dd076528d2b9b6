use Rattle.std.proofs.Common.{◌≡◌, ◌++◌, drop}
use Rattle.std.specs.Prelude.{flat_map}
use Rattle.dwarf_scopes.specs.calls.Numbered.{with_number}
use Rattle.debug_frames.specs.inner.Placing.{held_by}
use Rattle.debug_frames.proofs.stored.push_ranges.Given as goal

abbrev pub invariant-loop-sequence : goal.invariant-loop-sequence
invariant-loop-sequence l =
    l.ranges.items ++ with_number l.number (flat_map held_by (drop l.sequence-index l.fn.lines.sequences))
    ≡ l.initial.ranges.items ++ with_number l.number (flat_map held_by l.fn.lines.sequences)
