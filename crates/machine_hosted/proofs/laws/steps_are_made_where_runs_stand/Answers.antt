use Rattle.machine_hosted.proofs.MadeJoins.{all_reached}
use Rattle.machine_hosted.proofs.laws.steps_are_made_where_runs_stand.Goals as goal

pub returns : goal.returns
returns c = λ engine start n k f args w at e. all_reached engine f args start n k w at e
