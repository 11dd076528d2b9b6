use Rattle.std.proofs.Common.{sym}
use Rattle.validate_body.proofs.StackLaws.{aligned_not}
use Rattle.validate_body.proofs.shape.is_aligned.Goals as goal

pub returns-then-align-ge4 : goal.returns-then-align-ge4
returns-then-align-ge4 c = sym (aligned_not c.args.align c.args.bits c.if-align-ge4.true c.requires)
