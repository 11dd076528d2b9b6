use Rattle.rewrite_modules.proofs.Copies.{copy_is_refused}
use Rattle.rewrite_modules.proofs.laws.no_copy_simulates.Goals as goal

pub returns : goal.returns
returns c = copy_is_refused
