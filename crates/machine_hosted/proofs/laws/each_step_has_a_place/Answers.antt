use Rattle.machine_hosted.proofs.MadeJoins.{all_count}
use Rattle.machine_hosted.proofs.laws.each_step_has_a_place.Goals as goal

pub returns : goal.returns
returns c = λ engine start n f args w. all_count engine f args start n w
