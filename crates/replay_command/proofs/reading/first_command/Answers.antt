use Rattle.replay_command.proofs.Splits.{first_split, one_alone}
use Rattle.replay_command.proofs.reading.first_command.Goals as goal

pub returns-in-Some-clause-commands : goal.returns-in-Some-clause-commands
returns-in-Some-clause-commands c = first_split c.args.text.now c.in-Some.parts c.in-Some.ensures.cases

pub returns-in-None-clause-commands : goal.returns-in-None-clause-commands
returns-in-None-clause-commands c = one_alone c.args.text.now c.in-None.ensures.cases
