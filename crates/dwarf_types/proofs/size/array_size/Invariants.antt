use Rattle.std.proofs.Common.{◌≡◌, ◌≤◌, length, take}
use Rattle.std.specs.Prelude.{map, filter}
use Rattle.dwarf_entries.specs.Standing.{is_child}
use Rattle.dwarf_entries.specs.Tags.{tag_subrange}
use Rattle.dwarf_types.specs.Counts.{subrange_count}
use Rattle.dwarf_types.specs.Products.{array_size}
use Rattle.dwarf_types.proofs.size.array_size.Given as goal

abbrev pub invariant-entries : goal.invariant-entries
invariant-entries l = record {
  within : l.left ≤ length l.entries;
  sizes : array_size (map subrange_count (filter (is_child l.depth tag_subrange) l.entries)) l.fn.element
      ≡ array_size (map subrange_count (filter (is_child l.depth tag_subrange) (take l.left l.entries))) l.size;
}

abbrev pub decreases-entries : goal.decreases-entries
decreases-entries l = l.left
