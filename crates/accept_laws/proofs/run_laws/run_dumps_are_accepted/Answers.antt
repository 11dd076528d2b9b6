use Rattle.accept_laws.proofs.Written.{run_accepted}
use Rattle.accept_laws.proofs.run_laws.run_dumps_are_accepted.Goals as goal

pub returns : goal.returns
returns c = run_accepted
