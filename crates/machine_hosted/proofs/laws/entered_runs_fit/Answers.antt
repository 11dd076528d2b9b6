use Rattle.machine_hosted.proofs.SafeLaws.{entered_fits}
use Rattle.machine_hosted.proofs.laws.entered_runs_fit.Goals as goal

pub returns : goal.returns
returns c = λ engine f body tree type args w co n v at ty wf. entered_fits engine f body tree type args w co n v at ty wf
