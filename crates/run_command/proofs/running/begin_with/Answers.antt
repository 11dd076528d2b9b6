use Rattle.std.proofs.Common.{map}
use Rattle.run_session.specs.Invocations.{invocation_of}
use Rattle.run_command.proofs.Beginning.{behind_collector, without_collector, same_list}
use Rattle.run_command.proofs.running.begin_with.Goals as goal

pub returns-then-words-clause-begun : goal.returns-then-words-clause-begun
returns-then-words-clause-begun g c =
    behind_collector g.H.HostSide.serving c.args.words.now.collect c.new-collecting.result c.into_inner.result c.args.source.now (map invocation_of c.args.words.now.invocations) c.begin-begun.result c.if-words.true c.into_inner.ensures
    (same_list _ c.args.source.now c.as_slice-invocations.result.now c.args.words.now.invocations c.begin-begun.result c.as_slice-invocations.ensures c.begin-begun.ensures)

pub returns-else-words-clause-begun : goal.returns-else-words-clause-begun
returns-else-words-clause-begun g c =
    without_collector g.H.HostSide.serving c.args.words.now.collect c.args.hosts c.args.source.now (map invocation_of c.args.words.now.invocations) c.begin-begun_there.result c.if-words.false
    (same_list _ c.args.source.now c.as_slice-invocations.result.now c.args.words.now.invocations c.begin-begun_there.result c.as_slice-invocations.ensures c.begin-begun_there.ensures)
