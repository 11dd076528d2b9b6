use Rattle.rewrite_promise.proofs.Heights.{one_multiple}
use Rattle.rewrite_promise.proofs.laws.heights_give_one_multiple.Goals as goal

pub returns : goal.returns
returns c = λ m one other valid are too. one_multiple m valid one other are too
