use Rattle.std.proofs.Common.{subst}
use Rattle.machine_hosted.specs.inner.Replies.{Taken}
use Rattle.machine_hosted.proofs.ReplyLaws.{without, without_index}
use Rattle.machine_hosted.proofs.replies.take_arguments.Goals as goal

pub returns-then-indirect : goal.returns-then-indirect
returns-then-indirect c = λ taken below t e. without_index c.args.count taken below c.args.values.now c.take_under_index.new.values (subst (λ b. Taken b c.args.count taken) c.if-indirect.true t) e c.take_under_index.ensures

pub returns-else-indirect : goal.returns-else-indirect
returns-else-indirect c = λ taken below t e. without c.args.count taken below c.args.values.now c.discard.new.self (subst (λ b. Taken b c.args.count taken) c.if-indirect.false t) e c.discard.ensures
