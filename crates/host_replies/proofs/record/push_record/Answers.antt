use Rattle.std.proofs.Common.{◌≡◌, All, take, arith, subst}
use Rattle.std.proofs.lemmas.Grind.{common_steps}
use Rattle.std.proofs.lemmas.List.{take_all}
use Rattle.std.proofs.lemmas.List.Elements.{All-more}
use Rattle.host_replies.specs.Record.{IsReplyTyped}
use Rattle.host_replies.proofs.RecordLines.{record_back}
use Rattle.host_replies.proofs.record.push_record.Goals as goal

pub loop-reply-preserved : goal.loop-reply-preserved
loop-reply-preserved c = record {
  text = grind (arith, common_steps);
  typed = All-more IsReplyTyped c.args.replies.now c.loop-reply.reply-index c.reply-item.result c.loop-reply-test.true c.loop-reply.invariant.typed (subst IsReplyTyped c.reply-item.is c.in_ok-push_reply.ensures.typed);
}

pub returns-clause-read : goal.returns-clause-read
returns-clause-read c =
    let all : take c.loop-reply.reply-index c.args.replies.now ≡ c.args.replies.now = take_all c.loop-reply.reply-index c.args.replies.now (omega arith) in
    record_back c.args.replies.now (subst (All IsReplyTyped) all c.loop-reply.invariant.typed)
