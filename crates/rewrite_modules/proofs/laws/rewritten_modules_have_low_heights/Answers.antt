use Rattle.rewrite_modules.specs.calls.Instrument.{new_module}
use Rattle.rewrite_modules.specs.Instrumentable.{program_of}
use Rattle.rewrite_modules.proofs.BareValid.{same_valid}
use Rattle.rewrite_modules.proofs.LowOperands.{low_heights}
use Rattle.rewrite_modules.proofs.Modules.{module_given}
use Rattle.rewrite_modules.proofs.Theorem.{startable_given, ready_given}
use Rattle.rewrite_modules.proofs.ValidModule.{new_valid}
use Rattle.rewrite_modules.proofs.laws.rewritten_modules_have_low_heights.Goals as goal

pub returns : goal.returns
returns c = λ m other x whole e.
    let p = program_of m x.whole in
    let g = module_given m x in
    let valid = same_valid (new_module p) other e whole (new_valid p (ready_given p g) x.valid (startable_given p g).typed x.whole.write x.no_export_collision) in
    low_heights m other x whole valid e
