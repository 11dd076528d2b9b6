use Rattle.index_map.proofs.WithinLimits.{kept}
use Rattle.index_map.proofs.limit_laws.limits_are_kept.Goals as goal

pub returns : goal.returns
returns c = kept
