use Rattle.machine_basics.proofs.Frames.{tee_moves}
use Rattle.machine_basics.proofs.variables.local_tee.Goals as goal

pub returns-in-Some-clause-effect : goal.returns-in-Some-clause-effect
returns-in-Some-clause-effect c = λ w operands locals below e b.
    tee_moves w locals below c.args.index operands c.args.values.now c.set_at.new.self c.args.base c.in-Some.v e b c.in-Some.ensures c.set_at.ensures
