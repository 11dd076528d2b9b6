use Rattle.std.proofs.Common.{subst, arith}
use Rattle.dump_match.specs.States.{ClosesAt}
use Rattle.wasm_validate.specs.calls.Deciding.{Decides}
use Rattle.dump_match.proofs.Closings.{one_more, none_at_all}
use Rattle.dump_match.proofs.close.some_closes_at.Goals as goal

pub loop-n-preserved : goal.loop-n-preserved
loop-n-preserved c =
    one_more c.args.ops.now c.args.at c.loop-n.n c.loop-n.invariant
    (subst (λ b. Decides b (ClosesAt c.args.ops.now c.loop-n.n c.args.at)) c.if-closes_at.false c.closes_at.ensures)

pub returns : goal.returns
returns c = none_at_all c.args.ops.now c.args.at c.loop-n.n (omega arith) c.loop-n.invariant
