use Rattle.machine_hosted.proofs.SafeLaws.{later}
use Rattle.machine_hosted.proofs.laws.step_stays_safe.Goals as goal

pub returns : goal.returns
returns c = λ engine prepared depth k then m l b e st. later engine prepared depth k then m l b e st
