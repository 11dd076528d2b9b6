use Rattle.std.proofs.Common.{◌≡◌, ◌++◌, length}
use Rattle.std.specs.Prelude.{map, filter}
use Rattle.dwarf_entries.specs.Standing.{is_child}
use Rattle.dwarf_entries.specs.Tags.{tag_subrange}
use Rattle.dwarf_types.specs.Counts.{subrange_count}
use Rattle.dwarf_types.proofs.array_rows.counts_among.Given as goal

abbrev pub invariant-entries : goal.invariant-entries
invariant-entries l =
    map subrange_count (filter (is_child l.depth tag_subrange) l.entries) ≡ l.counts ++ map subrange_count (filter (is_child l.depth tag_subrange) l.left)

abbrev pub decreases-entries : goal.decreases-entries
decreases-entries l = length l.left
