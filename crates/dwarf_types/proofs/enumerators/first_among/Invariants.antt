use Rattle.std.proofs.Common.{◌≡◌, ℕ, drop}
use Rattle.std.specs.Prelude.{filter, find}
use Rattle.std.specs.Ordering.{nat_cmp}
use Rattle.std.specs.BTreeMap.{get}
use Rattle.dwarf_entries.specs.Standing.{is_child}
use Rattle.dwarf_entries.specs.Tags.{tag_enumerator}
use Rattle.dwarf_types.specs.calls.Numbers.{has_key}
use Rattle.dwarf_types.specs.inner.Firsts.{known_or}
use Rattle.dwarf_types.proofs.enumerators.first_among.Given as goal

abbrev pub invariant-entries : goal.invariant-entries
invariant-entries l = (n : ℕ) →
    known_or l.entries (get nat_cmp l.first n) (find (has_key l.size n) (filter (is_child l.depth tag_enumerator) (drop l.number l.entries)))
    ≡ find (has_key l.size n) (filter (is_child l.depth tag_enumerator) l.entries)
