use Rattle.debugger.proofs.Small.{small_memory}
use Rattle.debugger.proofs.subject.recorded_of.Goals as goal

pub recorded_memory-requires-clause-small : goal.recorded_memory-requires-clause-small
recorded_memory-requires-clause-small c = small_memory c.args.matched.now.module_ c.dump-dump.result.now c.dump-dump.ensures.matches
