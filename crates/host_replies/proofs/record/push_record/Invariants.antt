use Rattle.std.proofs.Common.{◌≡◌, ◌++◌, take, All}
use Rattle.host_replies.specs.Record.{IsReplyTyped, record_text}
use Rattle.host_replies.proofs.record.push_record.Given as goal

abbrev pub invariant-loop-reply : goal.invariant-loop-reply
invariant-loop-reply l = record {
  text : l.out ≡ l.initial.out ++ record_text (take l.reply-index l.replies);
  typed : All IsReplyTyped (take l.reply-index l.replies);
}
