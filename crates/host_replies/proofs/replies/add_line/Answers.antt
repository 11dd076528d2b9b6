use Rattle.std.proofs.Common.{arith}
use Rattle.host_replies.proofs.Lines.{wrong_line}
use Rattle.host_replies.proofs.replies.add_line.Goals as goal

pub overflow_add-result : goal.overflow_add-result
overflow_add-result c = let some = wrong_line c.args.line.now (rw c.in-Err-Outside.field-0-is at c.in-Err-Outside.ensures) in omega (arith, c.requires, some)
