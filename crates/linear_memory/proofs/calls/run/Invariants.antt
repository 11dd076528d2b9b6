use Rattle.linear_memory.proofs.ListsOfCalls.{Completes}
use Rattle.linear_memory.proofs.calls.run.Given as goal

abbrev pub invariant-loop-call : goal.invariant-loop-call
invariant-loop-call l = Completes l.fn.memory l.calls l.answers.items l.memory l.call-index
