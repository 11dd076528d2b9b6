use Rattle.selftest_command.proofs.Taken.{all_handed}
use Rattle.selftest_command.proofs.laws.rewritings_hand_over.Goals as goal

pub returns : goal.returns
returns c = all_handed
