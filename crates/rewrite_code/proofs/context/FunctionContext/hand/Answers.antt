use Rattle.rewrite_code.proofs.Loads.{when_ok, hand_whole}
use Rattle.rewrite_code.proofs.context.FunctionContext.hand.Goals as goal

pub returns : goal.returns
returns c = when_ok (hand_whole c.args.self.now c.args.places.now c.len.result c.len.ensures) c.hand_top.result c.hand_top.ensures
