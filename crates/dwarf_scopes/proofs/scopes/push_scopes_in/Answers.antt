use Rattle.std.proofs.lemmas.Result.{on_ok_weaker}
use Rattle.dwarf_scopes.specs.inner.Picks.{is_wanted}
use Rattle.dwarf_scopes.proofs.Filters.{all_inside}
use Rattle.dwarf_scopes.proofs.scopes.push_scopes_in.Goals as goal

pub push_scopes-pushed-requires : goal.push_scopes-pushed-requires
push_scopes-pushed-requires c = c.no_ranges-lists.ensures c.args.pick.now.sections.now c.args.pick.now.address

pub returns : goal.returns
returns c =
    on_ok_weaker c.push_scopes-pushed.result
    (all_inside (is_wanted c.args.blocks c.args.pick.now.sections.now c.args.pick.now.address) c.args.subprogram c.unit-unit.result.now c.inside-entries.result.now c.args.scopes.now c.push.new.self c.push_scopes-pushed.new.found
    c.requires c.in_ok-push.ensures.ok c.unit-unit.ensures c.inside-entries.ensures)
    c.push_scopes-pushed.ensures
