use Rattle.rewrite_modules.specs.calls.Instrument.{new_module}
use Rattle.rewrite_modules.specs.Instrumentable.{program_of}
use Rattle.rewrite_modules.proofs.BareValid.{same_sizes}
use Rattle.rewrite_modules.proofs.NewSizes.{new_sizes}
use Rattle.rewrite_modules.proofs.laws.rewritten_modules_are_within_limits.Goals as goal

pub returns : goal.returns
returns c = λ m other x e. same_sizes (new_module (program_of m x.whole)) other e (new_sizes m x)
