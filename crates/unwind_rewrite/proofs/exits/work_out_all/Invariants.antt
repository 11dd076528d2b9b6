use Rattle.std.proofs.Common.{◌≤◌, length, map}
use Rattle.rewrite_code.specs.calls.KeptDerivations.{derivation}
use Rattle.unwind_rewrite.proofs.WorkedOut.{Working}
use Rattle.unwind_rewrite.proofs.exits.work_out_all.Given as goal

abbrev pub invariant-loop-number : goal.invariant-loop-number
invariant-loop-number l = record {
  before : l.number ≤ length l.found;
  so_far : Working (map derivation l.found) l.number l.fn.writer l.writer;
}
