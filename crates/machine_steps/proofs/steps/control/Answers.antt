use Rattle.std.proofs.Common.{◌∙◌, ap, refl}
use Rattle.machine_steps.specs.calls.FramesMeet.{step_at}
use Rattle.machine_steps.specs.calls.Meets.{outcome_of}
use Rattle.machine_steps.specs.inner.Moves.{stepped_of}
use Rattle.machine_steps.specs.inner.Turns.{came_to}
use Rattle.machine_steps.proofs.StepLaws.{lifts}
use Rattle.machine_steps.proofs.steps.control.Goals as goal

pub returns-in-Jump-clause-meets : goal.returns-in-Jump-clause-meets
returns-in-Jump-clause-meets c = λ x h ce ip de r. c.jump.ensures.meets x h ce ip de (rw c.in-Jump.is at r)

pub returns-in-Block-clause-meets : goal.returns-in-Block-clause-meets
returns-in-Block-clause-meets c = λ x h ce ip de r. lifts x c.args.m.now c.args.innermost.now.code.now h c.block.result (came_to c.reached.result c.reached.new.told) (step_at x) c.block.new.m (c.reached.ensures.came ∙ ap outcome_of c.inside.ensures.stepped) (c.block.ensures.meets x h.inner (rw c.in-Block.is at r))

pub returns-in-Block-clause-stays : goal.returns-in-Block-clause-stays
returns-in-Block-clause-stays c = c.reached.ensures.stays c.args.m.now (record c.args.m.now { stack = c.block.new.m }) (c.inside.ensures.stays c.args.m.now.stack c.block.new.m c.block.ensures.frames)

pub returns-in-Loop-clause-meets : goal.returns-in-Loop-clause-meets
returns-in-Loop-clause-meets c = λ x h ce ip de r. lifts x c.args.m.now c.args.innermost.now.code.now h c.loop_.result (came_to c.reached-in-Loop.result c.reached-in-Loop.new.told) (step_at x) c.loop_.new.m (c.reached-in-Loop.ensures.came ∙ ap outcome_of c.inside-in-Loop.ensures.stepped) (c.loop_.ensures.meets x c.args.innermost.now.code.now _ h.inner (rw c.in-Loop.is at r))

pub returns-in-Loop-clause-stays : goal.returns-in-Loop-clause-stays
returns-in-Loop-clause-stays c = c.reached-in-Loop.ensures.stays c.args.m.now (record c.args.m.now { stack = c.loop_.new.m }) (c.inside-in-Loop.ensures.stays c.args.m.now.stack c.loop_.new.m c.loop_.ensures.frames)

pub returns-in-If-clause-meets : goal.returns-in-If-clause-meets
returns-in-If-clause-meets c = λ x h ce ip de r. lifts x c.args.m.now c.args.innermost.now.code.now h c.if_.result (came_to c.reached-in-If.result c.reached-in-If.new.told) (step_at x) c.if_.new.m (c.reached-in-If.ensures.came ∙ ap outcome_of c.inside-in-If.ensures.stepped) (c.if_.ensures.meets x h.inner (rw c.in-If.is at r))

pub returns-in-If-clause-stays : goal.returns-in-If-clause-stays
returns-in-If-clause-stays c = c.reached-in-If.ensures.stays c.args.m.now (record c.args.m.now { stack = c.if_.new.m }) (c.inside-in-If.ensures.stays c.args.m.now.stack c.if_.new.m c.if_.ensures.frames)

pub returns-in-Else-clause-meets : goal.returns-in-Else-clause-meets
returns-in-Else-clause-meets c = λ x h ce ip de r. lifts x c.args.m.now c.args.innermost.now.code.now h c.else_.result (came_to c.reached-in-Else.result c.reached-in-Else.new.told) (step_at x) c.else_.new.m (c.reached-in-Else.ensures.came ∙ ap outcome_of c.inside-in-Else.ensures.stepped) (c.else_.ensures.meets x c.args.innermost.now.code.now h.inner (rw c.in-Else.is at r))

pub returns-in-Else-clause-stays : goal.returns-in-Else-clause-stays
returns-in-Else-clause-stays c = c.reached-in-Else.ensures.stays c.args.m.now (record c.args.m.now { stack = c.else_.new.m }) (c.inside-in-Else.ensures.stays c.args.m.now.stack c.else_.new.m c.else_.ensures.frames)

pub returns-in-End-clause-meets : goal.returns-in-End-clause-meets
returns-in-End-clause-meets c = λ x h ce ip de r. lifts x c.args.m.now c.args.innermost.now.code.now h (stepped_of c.end.result) (came_to c.reached-in-End.result c.reached-in-End.new.told) (step_at x) c.end.new.m c.reached-in-End.ensures.came (c.end.ensures.meets x c.args.innermost.now.code.now h.inner refl (rw c.in-End.is at r))

pub returns-in-End-clause-stays : goal.returns-in-End-clause-stays
returns-in-End-clause-stays c = c.reached-in-End.ensures.stays c.args.m.now (record c.args.m.now { stack = c.end.new.m }) c.end.ensures.stays
