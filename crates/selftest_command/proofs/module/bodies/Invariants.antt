use Rattle.std.proofs.Common.{◌≡◌, ◌*◌}
use Rattle.selftest_command.specs.Selftest.{number, bodies}
use Rattle.selftest_command.proofs.module.bodies.Given as goal

abbrev pub invariant-loop-i : goal.invariant-loop-i
invariant-loop-i l = record {
  made : l.all ≡ bodies l.count l.i;
  number_is : l.r ≡ number l.count (16 * l.i);
}
