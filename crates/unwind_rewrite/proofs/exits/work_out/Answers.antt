use Rattle.rewrite_code.proofs.Loads.{when_ok}
use Rattle.rewrite_code.specs.calls.KeptDerivations.{derivation}
use Rattle.unwind_rewrite.proofs.WorkedOut.{worked}
use Rattle.unwind_rewrite.proofs.exits.work_out.Goals as goal

pub returns : goal.returns
returns c = when_ok (worked (derivation c.args.found.now) c.in_ok-basic.ensures c.in_ok-basic-2.ensures c.in_ok-basic-3.ensures) c.basic-4.result c.basic-4.ensures
