use Rattle.host_collector.proofs.Judged.{one_offending}
use Rattle.host_collector.proofs.laws.one_offending_call.Goals as goal

pub returns : goal.returns
returns c = one_offending
