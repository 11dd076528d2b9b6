use Rattle.machine_hosted.proofs.SafeLaws.{start_fits}
use Rattle.machine_hosted.proofs.laws.start_world_fits.Goals as goal

pub returns : goal.returns
returns c = λ p replies v. start_fits p replies v
