use Rattle.rewrite_promise.proofs.Outside.{outside}
use Rattle.rewrite_promise.proofs.laws.interface_is_kept.Goals as goal

pub returns : goal.returns
returns c = outside
