use Rattle.host_collector.proofs.Judged.{one_kind}
use Rattle.host_collector.proofs.Gathers.{one_dump}
use Rattle.host_collector.proofs.laws.one_collected_dump.Goals as goal

pub returns-clause-kind : goal.returns-clause-kind
returns-clause-kind c = one_kind

pub returns-clause-dump : goal.returns-clause-dump
returns-clause-dump c = one_dump
