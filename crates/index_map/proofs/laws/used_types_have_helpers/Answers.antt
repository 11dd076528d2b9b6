use Rattle.index_map.proofs.Trees.{helped_used}
use Rattle.index_map.proofs.Within.{used_within}
use Rattle.index_map.proofs.laws.used_types_have_helpers.Goals as goal

pub returns : goal.returns
returns c = record { flat = used_within; trees = helped_used }
