use Rattle.rewrite_promise.proofs.Rewritten.{rewritten}
use Rattle.rewrite_promise.proofs.laws.an_example_is_rewritten.Goals as goal

pub returns : goal.returns
returns c = rewritten
