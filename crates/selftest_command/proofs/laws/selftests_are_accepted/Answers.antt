use Rattle.selftest_command.proofs.Taken.{accepted}
use Rattle.selftest_command.proofs.laws.selftests_are_accepted.Goals as goal

pub returns : goal.returns
returns c = accepted
