use Rattle.rewrite_promise.proofs.Rewritten.{admitted}
use Rattle.rewrite_promise.proofs.laws.an_example_is_admitted.Goals as goal

pub returns : goal.returns
returns c = admitted
