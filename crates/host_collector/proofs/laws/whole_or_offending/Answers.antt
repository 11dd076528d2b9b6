use Rattle.host_collector.proofs.Judged.{whole_or_offending}
use Rattle.host_collector.proofs.laws.whole_or_offending.Goals as goal

pub returns : goal.returns
returns c = whole_or_offending
