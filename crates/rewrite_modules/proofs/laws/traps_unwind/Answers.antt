use Rattle.rewrite_modules.specs.Instrumentable.{program_of}
use Rattle.rewrite_modules.proofs.Modules.{module_given}
use Rattle.rewrite_modules.proofs.Unwinding.{unwinds}
use Rattle.rewrite_modules.proofs.laws.traps_unwind.Goals as goal

pub returns : goal.returns
returns c = λ m x heights are d. unwinds (program_of m x.whole) (module_given m x) heights are d
