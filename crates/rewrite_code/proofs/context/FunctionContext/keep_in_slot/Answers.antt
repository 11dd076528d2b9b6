use Rattle.rewrite_code.proofs.Loads.{when_ok, kept_in, passed_on}
use Rattle.rewrite_code.proofs.context.FunctionContext.keep_in_slot.Goals as goal

pub returns-then-passing : goal.returns-then-passing
returns-then-passing c = λ places e. passed_on c.args.self.now c.args.passing c.args.t places c.if-passing.true

pub returns-else-passing : goal.returns-else-passing
returns-else-passing c = λ places e. when_ok (kept_in c.args.self.now c.args.passing c.args.t c.args.height c.slot_at.result places c.if-passing.false c.slot_at.ensures.numbered e) c.tee.result c.tee.ensures
