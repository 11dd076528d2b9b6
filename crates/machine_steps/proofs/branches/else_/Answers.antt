use Rattle.machine_steps.proofs.BranchLaws.{else_meets, else_some}
use Rattle.machine_steps.proofs.branches.else_.Goals as goal

pub returns-in-Some-clause-meets : goal.returns-in-Some-clause-meets
returns-in-Some-clause-meets c = λ x code h r. else_meets x c.args.m.now code h c.in-Some.k c.pop.new.self r c.in-Some.ensures

pub returns-in-None-clause-meets : goal.returns-in-None-clause-meets
returns-in-None-clause-meets c = λ x code h r. absurd (else_some x c.args.m.now code h r c.in-None.ensures.0)
