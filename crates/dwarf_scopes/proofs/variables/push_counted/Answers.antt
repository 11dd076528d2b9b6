use Rattle.std.proofs.Common.{ap}
use Rattle.std.proofs.lemmas.Result.{on_ok_weaker}
use Rattle.dwarf_info.specs.declared.entry.Entry.{Entry}
use Rattle.dwarf_scopes.proofs.Counts.{all_variables}
use Rattle.dwarf_scopes.proofs.variables.push_counted.Goals as goal

pub push_scopes-pushed-requires-clause-right : goal.push_scopes-pushed-requires-clause-right
push_scopes-pushed-requires-clause-right c = c.no_ranges-lists.ensures c.args.pick.now.sections.now c.args.pick.now.address

pub returns : goal.returns
returns c =
    on_ok_weaker c.push_scopes-pushed.result
    (λ is. all_variables c.args.pick.now.sections.now c.args.pick.now.address c.args.subprogram.now c.unit-unit.result.now c.entry.result.now.depth c.args.entries.now c.args.variables.now c.push_children.new.variables
    c.push_scopes-pushed.new.variables c.unit-unit.ensures (ap (λ (e : Entry). e.depth) c.entry.ensures) c.requires.inside c.requires.none c.in_ok-push_children.ensures is)
    c.push_scopes-pushed.ensures
