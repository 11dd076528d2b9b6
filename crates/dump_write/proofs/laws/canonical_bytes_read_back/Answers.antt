use Rattle.dump_write.proofs.CanonicalLaws.{reads_back}
use Rattle.dump_write.proofs.laws.canonical_bytes_read_back.Goals as goal

pub returns : goal.returns
returns c = reads_back
