use Rattle.rewrite_modules.proofs.BareRuns.{runs_alike}
use Rattle.rewrite_modules.proofs.laws.offsets_change_no_run.Goals as goal

pub returns : goal.returns
returns c = λ p other collecting is replies d n e. runs_alike p other e collecting is replies d n
