use Rattle.rewrite_code.proofs.Loads.{when_ok, keeps_offset}
use Rattle.rewrite_code.proofs.context.FunctionContext.set_offset.Goals as goal

pub returns : goal.returns
returns c = when_ok (keeps_offset c.args.self.now c.args.offset c.offset_at.result c.offset_at.ensures c.in_ok-const_value.ensures) c.set.result c.set.ensures
