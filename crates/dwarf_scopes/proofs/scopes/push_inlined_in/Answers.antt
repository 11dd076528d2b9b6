use Rattle.std.proofs.Common.{false}
use Rattle.std.proofs.lemmas.Result.{on_ok_weaker}
use Rattle.dwarf_scopes.specs.inner.Picks.{is_wanted}
use Rattle.dwarf_scopes.proofs.Filters.{all_inside}
use Rattle.dwarf_scopes.proofs.scopes.push_inlined_in.Goals as goal

pub push_inlined-pushed-requires-clause-right : goal.push_inlined-pushed-requires-clause-right
push_inlined-pushed-requires-clause-right c = c.no_ranges-lists.ensures c.args.pick.now.sections.now c.args.pick.now.address

pub returns : goal.returns
returns c =
    on_ok_weaker c.push_inlined-pushed.result
    (all_inside (is_wanted false c.args.pick.now.sections.now c.args.pick.now.address) c.args.subprogram c.unit-unit.result.now c.args.entries.now c.args.found.now c.push.new.self c.push_inlined-pushed.new.found
    c.requires.none c.in_ok-push.ensures.ok c.unit-unit.ensures c.requires.inside)
    c.push_inlined-pushed.ensures
