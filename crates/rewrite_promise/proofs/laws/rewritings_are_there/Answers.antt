use Rattle.rewrite_promise.proofs.There.{there}
use Rattle.rewrite_promise.proofs.laws.rewritings_are_there.Goals as goal

pub returns : goal.returns
returns c = there
