use Rattle.rewrite_promise.proofs.Example.{accepted}
use Rattle.rewrite_promise.proofs.laws.premises_are_met.Goals as goal

pub returns : goal.returns
returns c = accepted
