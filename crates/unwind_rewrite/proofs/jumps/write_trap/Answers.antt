use Rattle.unwind_rewrite.proofs.JumpLaws.{trapped}
use Rattle.unwind_rewrite.proofs.jumps.write_trap.Goals as goal

pub returns : goal.returns
returns c = λ p. trapped c.args.context.now p c.args.offset c.args.walk.now c.places.result.now c.depth.result c.places.ensures c.depth.ensures c.in_ok-trap.ensures
