use Rattle.std.proofs.Common.{◌∙◌, sym, add-one, inl}
use Rattle.machine_steps.specs.calls.FramesMeet.{step_at}
use Rattle.machine_steps.proofs.Points.{becomes, no_top}
use Rattle.machine_steps.proofs.BlockLaws.{opened, chosen, if_meets, if_stuck, other_top}
use Rattle.machine_steps.proofs.blocks.if_.Goals as goal

pub returns-in-Some-I32-clause-meets : goal.returns-in-Some-I32-clause-meets
returns-in-Some-I32-clause-meets c = λ x h r.
    becomes x c.open.result (step_at x) c.open.new.m (opened x c.args.m.now c.args.code.now h c.pop.new.self c.in-Some.side.end c.args.t (chosen x c.args.m.now c.args.code.now h c.in-Some-I32.n c.in-Some.side c.args.next))
    (rw (← c.carries.ensures, ← c.pick.ensures) c.open.ensures.becomes)
    (if_meets x c.args.m.now c.args.code.now h c.args.t c.in-Some.side c.in-Some-I32.n c.pop.new.self c.args.next r (sym c.in-Some.ensures) (rw c.in-Some-I32.field-0-is at c.in-Some-I32.ensures) (c.requires ∙ add-one c.args.m.now.position))

pub returns-in-Some-I64-clause-meets : goal.returns-in-Some-I64-clause-meets
returns-in-Some-I64-clause-meets c = λ x h r. if_stuck x c.args.m.now c.args.code.now h c.args.t _ r (other_top x c.args.m.now c.args.code.now h _ c.pop.new.self (rw c.in-Some-I64.field-0-is at c.in-Some-I64.ensures))

pub returns-in-None-pop-clause-meets : goal.returns-in-None-pop-clause-meets
returns-in-None-pop-clause-meets c = λ x h r. if_stuck x c.args.m.now c.args.code.now h c.args.t _ r (inl (no_top x c.args.m.now c.args.code.now h c.in-None-pop.ensures.0))
