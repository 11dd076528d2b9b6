use Rattle.std.proofs.Common.{◌∙◌, add-one, inl}
use Rattle.machine_steps.specs.inner.Moves.{stepped_of}
use Rattle.machine_steps.proofs.Points.{no_top}
use Rattle.machine_steps.proofs.BlockLaws.{other_top}
use Rattle.machine_steps.proofs.JumpLaws.{branch_if_on, branch_if_takes, branch_if_stuck}
use Rattle.machine_steps.proofs.branches.branch_if.Goals as goal

pub returns-then-c-eq0-clause-meets : goal.returns-then-c-eq0-clause-meets
returns-then-c-eq0-clause-meets c = λ x code h g r. branch_if_on x c.args.m.now code h c.args.n c.pop.new.self c.args.next r (rw (← c.if-c-eq0.true) (rw c.in-Some-I32.field-0-is at c.in-Some-I32.ensures)) (c.requires.next ∙ add-one c.args.m.now.position)

pub returns-else-c-eq0-clause-meets : goal.returns-else-c-eq0-clause-meets
returns-else-c-eq0-clause-meets c = λ x code h g r. branch_if_takes x c.args.m.now code h c.args.n c.in-Some-I32.c c.pop.new.self (stepped_of c.branch-m.result) c.branch-m.new.m r c.if-c-eq0.false (rw c.in-Some-I32.field-0-is at c.in-Some-I32.ensures) (λ y hy. c.branch-m.ensures.meets y code hy g)

pub returns-in-Some-I64-clause-meets : goal.returns-in-Some-I64-clause-meets
returns-in-Some-I64-clause-meets c = λ x code h g r. branch_if_stuck x c.args.m.now code h c.args.n _ r (other_top x c.args.m.now code h _ c.pop.new.self (rw c.in-Some-I64.field-0-is at c.in-Some-I64.ensures))

pub returns-in-None-clause-meets : goal.returns-in-None-clause-meets
returns-in-None-clause-meets c = λ x code h g r. branch_if_stuck x c.args.m.now code h c.args.n _ r (inl (no_top x c.args.m.now code h c.in-None.ensures.0))
