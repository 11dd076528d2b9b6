use Rattle.std.proofs.Common.{◌∙◌}
use Rattle.debugger.proofs.Rows.{window_more}
use Rattle.debugger.proofs.examined.bytes_at.Goals as goal

pub loop-i-preserved : goal.loop-i-preserved
loop-i-preserved c = c.in_ok-push.ensures.items ∙ window_more c.args.memory.now.memory.bytes c.args.at c.loop-i.i c.byte_at.result c.loop-i.bytes.items c.loop-i.invariant c.byte_at.ensures
