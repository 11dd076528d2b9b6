use Rattle.std.proofs.Common.{ap, ◌∙◌}
use Rattle.dwarf_scopes.specs.calls.Knowing.{held_in}
use Rattle.dwarf_scopes.proofs.AskedLaws.{held_right, held_known}
use Rattle.dwarf_scopes.proofs.asked.in_list.Goals as goal

pub returns-in-Ok-clause-is : goal.returns-in-Ok-clause-is
returns-in-Ok-clause-is c =
    c.held_in.ensures ∙ ap held_in c.in-Ok.ensures.chosen ∙ held_right c.args.sections.now c.args.unit.now c.args.address c.args.at

pub returns-in-Ok-Some-clause-is : goal.returns-in-Ok-Some-clause-is
returns-in-Ok-Some-clause-is c =
    held_known c.args.sections.now c.args.unit.now c.args.address c.args.at c.place_of-place.result c.in-Ok-Some.field-0 c.in-Ok-Some.held c.in-Ok-Some.field-0-is c.place_of-place.ensures c.in-Ok-Some.ensures.is
