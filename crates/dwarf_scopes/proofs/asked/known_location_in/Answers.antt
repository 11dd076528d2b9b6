use Rattle.std.proofs.Common.{◌∙◌}
use Rattle.std.proofs.lemmas.Result.{IfOk-weaker}
use Rattle.dwarf_scopes.proofs.AskedLaws.{found_right}
use Rattle.dwarf_scopes.proofs.asked.known_location_in.Goals as goal

pub returns-clause-is : goal.returns-clause-is
returns-clause-is c = IfOk-weaker c.chosen_in.result _ _ (λ found is. is ∙ found_right c.args.sections.now c.args.unit.now c.args.address c.args.at) c.chosen_in.ensures.chosen
