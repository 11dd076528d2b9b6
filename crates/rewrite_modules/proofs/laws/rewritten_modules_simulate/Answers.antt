use Rattle.rewrite_modules.specs.Instrumentable.{program_of}
use Rattle.rewrite_modules.proofs.Modules.{module_given}
use Rattle.rewrite_modules.proofs.Multiple.{others_simulate}
use Rattle.rewrite_modules.proofs.laws.rewritten_modules_simulate.Goals as goal

pub returns : goal.returns
returns c = λ m other x whole e. others_simulate (program_of m x.whole) (program_of other whole) (module_given m x) whole.write e
