use Rattle.guard_insert.proofs.Meaning.{kind_written}
use Rattle.guard_insert.proofs.choice.kind.Goals as goal

pub returns-clause-means : goal.returns-clause-means
returns-clause-means c = kind_written c.args.context.now c.args.instruction.now c.args.places.now _ _ c.write_kind.result c.requires c.write_kind.ensures
