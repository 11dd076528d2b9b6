-- Each accepted module has a rewriting.
use Rattle.std.proofs.Common.{lit<}
use Rattle.wasm_syntax.specs.declared.module.ModuleParts.{ModuleParts as Module}
use Rattle.wasm_syntax.specs.Module.{Program}
use Rattle.rewrite_modules.specs.calls.Given.{Given}
use Rattle.rewrite_modules.specs.Instrumentable.{program_of, Instrumentable}
use Rattle.rewrite_modules.proofs.Modules.{module_given}
use Rattle.rewrite_modules.proofs.Theorem.{startable_given, ready_given}
use Rattle.rewrite_modules.proofs.ValidModule.{new_valid}
use Rattle.rewrite_promise.specs.calls.Promise.{Accepted, IsRewriting, Promised}
use Rattle.rewrite_promise.proofs.Kept.{promised}
use Rattle.rewrite_promise.proofs.Laid.{laid, laid_is, laid_same}

abbrev pub rewriting : (m : Module) → Instrumentable m → (other : Module) × IsRewriting m other
rewriting m x =
    let p : Program = program_of m x.whole in
    let given : Given p = module_given m x in
    let valid = new_valid p (ready_given p given) x.valid (startable_given p given).typed x.whole.write x.no_export_collision in (
      laid p,
      record {
        whole = x.whole;
        other_whole = laid_is p x.whole valid;
        same = laid_same p;
        few_customs = lit< tt;
        short_names = tt;
      },
    )

pub there : (m : Module) → Accepted m → (other : Module) × IsRewriting m other × Promised m other
there m a =
    let r = rewriting m a.premises in
    (r.0, r.1, promised m r.0 a r.1)
