use Rattle.dump_write.proofs.CanonicalLaws.{keeps_memory}
use Rattle.dump_write.proofs.laws.canonical_memory_is_kept.Goals as goal

pub returns : goal.returns
returns c = keeps_memory
