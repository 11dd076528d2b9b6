use Rattle.std.proofs.Common.{◌≤◌, length, map}
use Rattle.rewrite_code.specs.calls.KeptLandings.{landing}
use Rattle.unwind_rewrite.proofs.Landings.{Closing}
use Rattle.unwind_rewrite.proofs.exits.close_landings.Given as goal

abbrev pub invariant-loop-number : goal.invariant-loop-number
invariant-loop-number l = record {
  before : l.number ≤ length l.landings;
  so_far : Closing l.fn.context (map landing l.landings) l.number l.fn.writer l.writer;
}
