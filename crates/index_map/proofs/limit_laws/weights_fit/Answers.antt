use Rattle.index_map.proofs.Bounds.{weight_fits}
use Rattle.index_map.proofs.limit_laws.weights_fit.Goals as goal

pub returns : goal.returns
returns c = weight_fits
