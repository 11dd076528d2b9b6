use Rattle.std.proofs.Common.{◌≡◌, ◌++◌, drop}
use Rattle.selftest_command.specs.Selftest.{ops_from}
use Rattle.selftest_command.proofs.code.body_of.Given as goal

abbrev pub invariant-loop-i : goal.invariant-loop-i
invariant-loop-i l = l.ops ++ ops_from l.i (drop l.i l.code) ≡ ops_from 0 l.code
