use Rattle.rewrite_promise.proofs.Layered.{layered}
use Rattle.rewrite_promise.proofs.laws.layers_promise.Goals as goal

pub returns : goal.returns
returns c = layered
