use Rattle.std.specs.Prelude.{filter}
use Rattle.dwarf_entries.specs.Standing.{standing_in}
use Rattle.dwarf_types.specs.calls.Contents.{stands_in}
use Rattle.dwarf_types.proofs.ContentLaws.{turn_told}
use Rattle.dwarf_types.proofs.structures.contents_among.Goals as goal

pub entries-preserved : goal.entries-preserved
entries-preserved c = λ u.
    turn_told u c.args.depth c.entries.number c.args.entries.now c.index-entries-number.result c.entries.positions c.push_content.new.positions
    (filter (stands_in c.args.depth) (standing_in u c.args.entries.now))
    c.entries-test.true c.index-entries-number.is c.in_ok-push_content.ensures (c.entries.invariant u)
