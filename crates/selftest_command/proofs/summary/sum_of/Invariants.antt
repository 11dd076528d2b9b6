use Rattle.std.proofs.Common.{◌≡◌, ◌≤◌, ◌*◌, take}
use Rattle.std.specs.Prelude.{sum}
use Rattle.selftest_command.proofs.summary.sum_of.Given as goal

abbrev pub invariant-loop-byte : goal.invariant-loop-byte
invariant-loop-byte l = record {
  total_is : l.total ≡ sum (take l.byte-index l.bytes);
  few : l.total ≤ 255 * l.byte-index;
}
