use Rattle.std.proofs.Common.{◌≡◌, length}
use Rattle.std.specs.Prelude.{◌==◌}
use Rattle.std.specs.List.{slice_split}
use Rattle.host_replies.specs.Replies.{writes_of}
use Rattle.host_replies.proofs.Lines.{before_writes}
use Rattle.host_replies.proofs.words.writes.Given as goal

abbrev pub invariant-loop-behind : goal.invariant-loop-behind
invariant-loop-behind l = writes_of (slice_split (λ b. b == 32) l.parts) ≡ before_writes l.writes (writes_of (slice_split (λ b. b == 32) l.rest))

abbrev pub decreases-loop-behind : goal.decreases-loop-behind
decreases-loop-behind l = length l.rest
