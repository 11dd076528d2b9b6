use Rattle.rewrite_code.proofs.Loads.{when_ok, own_and_slot}
use Rattle.rewrite_code.proofs.context.FunctionContext.copy_to_slot.Goals as goal

pub returns : goal.returns
returns c = when_ok (own_and_slot c.args.self.now c.args.t c.args.local c.args.height c.slot_at.result c.slot_at.ensures.numbered c.in_ok-basic.ensures) c.set.result c.set.ensures
