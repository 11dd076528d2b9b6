use Rattle.rewrite_modules.proofs.Divider.{hands_over}
use Rattle.rewrite_modules.proofs.laws.division_by_zero_is_handed_over.Goals as goal

pub returns : goal.returns
returns c = hands_over
