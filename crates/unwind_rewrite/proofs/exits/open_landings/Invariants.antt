use Rattle.std.proofs.Common.{◌≤◌, length, map}
use Rattle.rewrite_code.specs.calls.KeptLandings.{landing}
use Rattle.unwind_rewrite.proofs.Landings.{Opening}
use Rattle.unwind_rewrite.proofs.exits.open_landings.Given as goal

abbrev pub invariant-loop-left : goal.invariant-loop-left
invariant-loop-left l = record {
  low : l.left ≤ length l.landings;
  so_far : Opening l.fn.context (map landing l.landings) l.left l.fn.writer l.writer;
}

abbrev pub decreases-loop-left : goal.decreases-loop-left
decreases-loop-left l = l.left
