use Rattle.pm_cli.proofs.Taken.{whole_front}
use Rattle.pm_cli.proofs.top.deliver.Goals as goal

pub returns-in-Done-clause-front : goal.returns-in-Done-clause-front
returns-in-Done-clause-front g c = whole_front (g.O.Sink.taken c.args.out.now) (g.O.Sink.taken c.put.new.self) c.as_bytes.result.now c.args.outcome.now.text c.as_bytes.ensures c.in-Done.ensures.content
