use Rattle.rewrite_promise.proofs.Heights.{one_weight}
use Rattle.rewrite_promise.proofs.laws.heights_give_one_weight.Goals as goal

pub returns : goal.returns
returns c = λ m one other valid are too. one_weight m valid one other are too
