use Rattle.var_values.proofs.RowLaws.{new_sound, new_all}
use Rattle.var_values.proofs.levels.Rows.new.Goals as goal

pub returns-clause-sound : goal.returns-clause-sound
returns-clause-sound c = λ a nested fits. new_sound a c.args.skipped c.new.result c.new.ensures nested fits

pub returns-clause-all : goal.returns-clause-all
returns-clause-all c = λ a item. new_all item a c.args.skipped c.new.result
