use Rattle.machine_hosted.proofs.SafeLaws.{reached}
use Rattle.machine_hosted.proofs.laws.reached_stays_safe.Goals as goal

pub returns : goal.returns
returns c = λ engine prepared depth n k then m l b e st. reached engine prepared depth n k then m l b e st
