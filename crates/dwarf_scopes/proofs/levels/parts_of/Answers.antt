use Rattle.dwarf_scopes.proofs.LevelLaws.{parts_more, parts_all}
use Rattle.dwarf_scopes.proofs.levels.parts_of.Goals as goal

pub entries-preserved : goal.entries-preserved
entries-preserved c =
    parts_more c.args.size c.entries.parts c.push.new.self c.in_ok-part.part c.args.entries.now c.entries.left.now c.first_entries-front.result.now c.entries_from-behind.result.now c.first_entries-front.ensures
    c.entries_from-behind.ensures c.in_ok-part.ensures c.in_ok-push.ensures.ok c.entries.invariant

pub returns : goal.returns
returns c = parts_all c.args.size c.entries.parts c.args.entries.now c.entries.left.now c.entries.invariant
