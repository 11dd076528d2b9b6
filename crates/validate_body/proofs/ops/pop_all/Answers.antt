use Rattle.std.proofs.Common.{sym, ◌∙◌, take, reverse}
use Rattle.validate_body.proofs.StackLaws.{pops_any}
use Rattle.validate_body.proofs.ops.pop_all.Goals as goal

pub returns-then-gives_any : goal.returns-then-gives_any
returns-then-gives_any c = c.loop-n.invariant.same ∙ pops_any c.loop-n.stack (reverse (take c.loop-n.n c.args.types.now)) (sym c.gives_any.ensures ∙ c.if-gives_any.true)
