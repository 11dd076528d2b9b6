use Rattle.linear_memory.proofs.ListsOfCalls.{goes_on, ends}
use Rattle.linear_memory.proofs.calls.run.Goals as goal

pub loop-call-preserved : goal.loop-call-preserved
loop-call-preserved c =
    goes_on c.args.memory.now c.loop-call.memory c.make.new.memory c.args.calls.now c.loop-call.call-index c.call-item.result c.loop-call.answers.items c.push.new.self.items c.in_ok-answer.answer
    c.loop-call-test.true c.call-item.is c.in_ok-push.ensures.items c.in_ok-answer.ensures c.loop-call.invariant

pub returns : goal.returns
returns c = ends c.args.memory.now c.loop-call.memory c.args.calls.now c.loop-call.call-index c.loop-call.answers.items c.loop-call-test.false c.loop-call.invariant
