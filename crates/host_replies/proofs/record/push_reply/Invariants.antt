use Rattle.std.proofs.Common.{◌≡◌, ◌++◌, take, All}
use Rattle.std.specs.List.{flat_map}
use Rattle.host_replies.specs.Record.{behind_space}
use Rattle.host_replies.specs.inner.Written.{IsWriteKept}
use Rattle.host_replies.proofs.record.push_reply.Given as goal

abbrev pub invariant-loop-write : goal.invariant-loop-write
invariant-loop-write l = record {
  text : l.out ≡ l.initial.out ++ flat_map behind_space (take l.write-index l.write-items);
  typed : All IsWriteKept (take l.write-index l.write-items);
}
