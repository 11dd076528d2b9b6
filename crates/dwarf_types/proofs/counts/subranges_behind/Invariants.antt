use Rattle.std.proofs.Common.{◌≡◌, drop, length}
use Rattle.std.specs.Prelude.{filter}
use Rattle.dwarf_entries.specs.Standing.{is_child}
use Rattle.dwarf_entries.specs.Tags.{tag_subrange}
use Rattle.dwarf_types.proofs.counts.subranges_behind.Given as goal

abbrev pub invariant-entries : goal.invariant-entries
invariant-entries l = drop l.skipped (filter (is_child l.depth tag_subrange) l.entries) ≡ drop l.more (filter (is_child l.depth tag_subrange) l.left)

abbrev pub decreases-entries : goal.decreases-entries
decreases-entries l = length l.left
