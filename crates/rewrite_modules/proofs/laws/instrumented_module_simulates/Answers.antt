use Rattle.rewrite_modules.proofs.Multiple.{simulates_by}
use Rattle.rewrite_modules.proofs.laws.instrumented_module_simulates.Goals as goal

pub returns : goal.returns
returns c = simulates_by
