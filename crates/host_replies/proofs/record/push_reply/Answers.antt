use Rattle.std.proofs.Common.{arith, subst}
use Rattle.std.proofs.lemmas.Grind.{common_steps}
use Rattle.std.proofs.lemmas.List.Elements.{All-more}
use Rattle.host_replies.specs.inner.Written.{IsWriteKept}
use Rattle.host_replies.proofs.record.push_reply.Goals as goal

pub loop-write-preserved : goal.loop-write-preserved
loop-write-preserved c = record {
  text = grind (arith, common_steps);
  typed = All-more IsWriteKept c.as_slice-write-items.result.now c.loop-write.write-index c.write-item.result c.loop-write-test.true c.loop-write.invariant.typed (subst IsWriteKept c.write-item.is c.in_ok-push_write.ensures.typed);
}
