use Rattle.std.proofs.Common.{◌≡◌, ◌+◌, ◌≤◌, length}
use Rattle.std.specs.Prelude.{◌==◌}
use Rattle.std.specs.List.{slice_split}
use Rattle.std.specs.Str.Lines.{lines_of_parts}
use Rattle.host_replies.specs.Replies.{file_replies, replies_from}
use Rattle.host_replies.proofs.Lines.{before_replies}
use Rattle.host_replies.proofs.replies.read_replies.Given as goal

abbrev pub invariant-loop-behind : goal.invariant-loop-behind
invariant-loop-behind l = record {
  read : file_replies l.bytes ≡ before_replies l.replies (replies_from (l.before + 1) (lines_of_parts (slice_split (λ b. b == 10) l.rest)));
  counted : l.before + length l.rest ≤ length l.bytes;
}

abbrev pub decreases-loop-behind : goal.decreases-loop-behind
decreases-loop-behind l = length l.rest
