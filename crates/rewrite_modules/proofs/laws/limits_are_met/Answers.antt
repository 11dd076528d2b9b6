use Rattle.rewrite_modules.proofs.Divider.{instrumentable}
use Rattle.rewrite_modules.proofs.laws.limits_are_met.Goals as goal

pub returns : goal.returns
returns c = instrumentable
