use Rattle.rewrite_modules.proofs.Modules.{module_given}
use Rattle.rewrite_modules.proofs.laws.instrumentable_modules_are_given.Goals as goal

pub returns : goal.returns
returns c = module_given
