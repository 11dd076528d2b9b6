use Rattle.guard_insert.proofs.Meaning.{guard_written}
use Rattle.guard_insert.proofs.choice.guard.Goals as goal

pub returns-clause-means : goal.returns-clause-means
returns-clause-means c = guard_written c.args.context.now c.args.instruction.now c.args.places.now _ _ c.write_guard.result c.requires c.write_guard.ensures
