use Rattle.std.proofs.Common.{refl, inl}
use Rattle.machine_steps.specs.inner.Moves.{stepped_of}
use Rattle.machine_steps.proofs.Points.{no_top}
use Rattle.machine_steps.proofs.BlockLaws.{other_top}
use Rattle.machine_steps.proofs.JumpLaws.{branch_table_takes, branch_table_stuck}
use Rattle.machine_steps.proofs.branches.branch_table.Goals as goal

pub returns-in-Some-I32-clause-meets : goal.returns-in-Some-I32-clause-meets
returns-in-Some-I32-clause-meets c = λ x h r. branch_table_takes x c.args.m.now c.args.code.now h _ c.args.default c.in-Some-I32.i c.target-n.result c.pop.new.self (stepped_of c.branch-m.result) c.branch-m.new.m r (rw c.in-Some-I32.field-0-is at c.in-Some-I32.ensures) c.target-n.ensures (λ y hy. c.branch-m.ensures.meets y c.args.code.now hy refl)

pub returns-in-Some-I64-clause-meets : goal.returns-in-Some-I64-clause-meets
returns-in-Some-I64-clause-meets c = λ x h r. branch_table_stuck x c.args.m.now c.args.code.now h _ c.args.default _ r (other_top x c.args.m.now c.args.code.now h _ c.pop.new.self (rw c.in-Some-I64.field-0-is at c.in-Some-I64.ensures))

pub returns-in-None-clause-meets : goal.returns-in-None-clause-meets
returns-in-None-clause-meets c = λ x h r. branch_table_stuck x c.args.m.now c.args.code.now h _ c.args.default _ r (inl (no_top x c.args.m.now c.args.code.now h c.in-None.ensures.0))
