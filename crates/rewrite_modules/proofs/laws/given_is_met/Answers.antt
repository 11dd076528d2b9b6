use Rattle.rewrite_modules.proofs.Divider.{given}
use Rattle.rewrite_modules.proofs.laws.given_is_met.Goals as goal

pub returns : goal.returns
returns c = given
