use Rattle.machine_steps.specs.calls.FramesMeet.{step_at}
use Rattle.machine_steps.specs.inner.Moves.{stepped_of}
use Rattle.machine_steps.specs.inner.Turns.{came_to}
use Rattle.machine_steps.proofs.StepLaws.{lifts}
use Rattle.machine_steps.proofs.steps.by_table.Goals as goal

pub returns-clause-meets : goal.returns-clause-meets
returns-clause-meets c = λ x h r. lifts x c.args.m.now c.args.code.now h (stepped_of c.branch_table-reach.result) (came_to c.reached.result c.reached.new.told) (step_at x) c.branch_table-reach.new.m c.reached.ensures.came (c.branch_table-reach.ensures.meets x h.inner r)

pub returns-clause-stays : goal.returns-clause-stays
returns-clause-stays c = c.reached.ensures.stays c.args.m.now (record c.args.m.now { stack = c.branch_table-reach.new.m }) c.branch_table-reach.ensures.stays
