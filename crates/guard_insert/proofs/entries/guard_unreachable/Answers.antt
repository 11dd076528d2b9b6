use Rattle.guard_insert.proofs.Meaning.{unreachable_written}
use Rattle.guard_insert.proofs.entries.guard_unreachable.Goals as goal

pub returns-clause-means : goal.returns-clause-means
returns-clause-means c = λ C. unreachable_written C _ _ c.write_kind.result c.write_kind.ensures
