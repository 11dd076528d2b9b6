use Rattle.std.specs.Prelude.{filter, find}
use Rattle.std.specs.Ordering.{nat_cmp}
use Rattle.std.specs.BTreeMap.{get}
use Rattle.dwarf_entries.specs.Standing.{is_child}
use Rattle.dwarf_entries.specs.Tags.{tag_enumerator}
use Rattle.dwarf_types.specs.calls.Numbers.{has_key}
use Rattle.dwarf_types.proofs.FirstLaws.{turn_first}
use Rattle.dwarf_types.proofs.enumerators.first_among.Goals as goal

pub entries-preserved : goal.entries-preserved
entries-preserved c =
    turn_first c.args.size c.args.depth c.entries.number c.args.entries.now c.index-entries-number.result (get nat_cmp c.entries.first) (get nat_cmp c.add_entry.new.first)
    (λ n. find (has_key c.args.size n) (filter (is_child c.args.depth tag_enumerator) c.args.entries.now))
    c.entries-test.true c.index-entries-number.is c.in_ok-add_entry.ensures c.entries.invariant
