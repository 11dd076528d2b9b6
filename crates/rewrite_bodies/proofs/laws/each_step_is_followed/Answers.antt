use Rattle.rewrite_bodies.proofs.Step.{step_sim}
use Rattle.rewrite_bodies.proofs.laws.each_step_is_followed.Goals as goal

pub returns : goal.returns
returns c = λ M M' E gl W S. step_sim M M' E gl W S
