use Rattle.rewrite_modules.proofs.Multiple.{others_simulate}
use Rattle.rewrite_modules.proofs.laws.rewritten_programs_simulate.Goals as goal

pub returns : goal.returns
returns c = others_simulate
