use Rattle.var_values.proofs.WordLaws.{shifted_by}
use Rattle.var_values.proofs.word.shifted.Goals as goal

pub returns : goal.returns
returns c = shifted_by c.args.count c.args.wide.first c.args.wide.rest c.power-2.result c.power.result c.from.result c.requires c.power-2.ensures c.power.ensures c.from.ensures
