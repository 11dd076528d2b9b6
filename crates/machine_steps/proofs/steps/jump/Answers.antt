use Rattle.std.proofs.Common.{sym, subst, refl}
use Rattle.wasm_syntax.specs.Tree.{Unreachable, Br, Return}
use Rattle.machine_steps.specs.calls.FramesMeet.{step_at, branch_at, return_at}
use Rattle.machine_steps.proofs.JumpLaws.{jump_at, step_jumps}
use Rattle.machine_steps.specs.calls.Meets.{MeetsAt}
use Rattle.machine_steps.specs.inner.Moves.{stepped_of}
use Rattle.machine_steps.specs.inner.Turns.{came_to}
use Rattle.machine_steps.specs.declared.machine.Outcome.TheVariants.{Trap}
use Rattle.machine_basics.specs.declared.answer.TrapKind.TheVariants as kinds
use Rattle.machine_steps.proofs.StepLaws.{lifts, traps_here}
use Rattle.machine_steps.proofs.steps.jump.Goals as goal

pub returns-in-Unreachable-clause-meets : goal.returns-in-Unreachable-clause-meets
returns-in-Unreachable-clause-meets c = λ x h ce ip de r.
    let i = jump_at x c.args.m.now.stack c.args.innermost.now.code.now h.inner Unreachable (rw c.in-Unreachable.is at r) in
    subst (λ o. MeetsAt x o (step_at x) c.args.m.now) (sym c.reached-in-Unreachable.ensures.came)
    (subst (λ s. MeetsAt x (Trap kinds.Unreachable) s c.args.m.now) (sym (step_jumps x c.args.m.now.stack c.args.innermost.now.code.now h.inner Unreachable i)) (traps_here x c.args.m.now c.args.innermost.now.code.now h kinds.Unreachable 1 refl))

pub returns-in-Br-clause-meets : goal.returns-in-Br-clause-meets
returns-in-Br-clause-meets c = λ x h ce ip de r.
    let i = jump_at x c.args.m.now.stack c.args.innermost.now.code.now h.inner (Br c.in-Br.n) (rw c.in-Br.is at r) in
    subst (λ s. MeetsAt x (came_to c.reached.result c.reached.new.told) s (record c.args.m.now { stack = c.branch-m.new.m })) (sym (step_jumps x c.args.m.now.stack c.args.innermost.now.code.now h.inner (Br c.in-Br.n) i))
    (lifts x c.args.m.now c.args.innermost.now.code.now h (stepped_of c.branch-m.result) (came_to c.reached.result c.reached.new.told) (branch_at x c.in-Br.n) c.branch-m.new.m c.reached.ensures.came (c.branch-m.ensures.meets x c.args.innermost.now.code.now h.inner refl))

pub returns-in-BrIf-clause-meets : goal.returns-in-BrIf-clause-meets
returns-in-BrIf-clause-meets c = λ x h ce ip de r. lifts x c.args.m.now c.args.innermost.now.code.now h (stepped_of c.branch_if.result) (came_to c.reached-in-BrIf.result c.reached-in-BrIf.new.told) (step_at x) c.branch_if.new.m c.reached-in-BrIf.ensures.came (c.branch_if.ensures.meets x c.args.innermost.now.code.now h.inner refl (rw c.in-BrIf.is at r))

pub returns-in-BrTable-clause-meets : goal.returns-in-BrTable-clause-meets
returns-in-BrTable-clause-meets c = λ x h ce ip de r. c.by_table.ensures.meets x h (rw c.in-BrTable.is at r)

pub returns-in-Return-clause-meets : goal.returns-in-Return-clause-meets
returns-in-Return-clause-meets c = λ x h ce ip de r.
    let i = jump_at x c.args.m.now.stack c.args.innermost.now.code.now h.inner Return (rw c.in-Return.is at r) in
    subst (λ s. MeetsAt x (came_to c.reached-in-Return.result c.reached-in-Return.new.told) s (record c.args.m.now { stack = c.leave.new.m })) (sym (step_jumps x c.args.m.now.stack c.args.innermost.now.code.now h.inner Return i))
    (lifts x c.args.m.now c.args.innermost.now.code.now h c.leave.result (came_to c.reached-in-Return.result c.reached-in-Return.new.told) (return_at x) c.leave.new.m c.reached-in-Return.ensures.came (c.leave.ensures x c.args.innermost.now.code.now h.inner refl))

pub returns-in-Call-clause-meets : goal.returns-in-Call-clause-meets
returns-in-Call-clause-meets c = λ x h ce ip de r. c.call_direct.ensures x c.args.innermost.now.code.now h ce ip de (rw c.in-Call.is at r)

pub returns-in-CallIndirect-clause-meets : goal.returns-in-CallIndirect-clause-meets
returns-in-CallIndirect-clause-meets c = λ x h ce ip de r. c.call_indirect.ensures x c.args.innermost.now.code.now h ce ip de (rw c.in-CallIndirect.is at r)

pub returns-in-Br-clause-stays : goal.returns-in-Br-clause-stays
returns-in-Br-clause-stays c = c.reached.ensures.stays c.args.m.now (record c.args.m.now { stack = c.branch-m.new.m }) c.branch-m.ensures.stays

pub returns-in-BrIf-clause-stays : goal.returns-in-BrIf-clause-stays
returns-in-BrIf-clause-stays c = c.reached-in-BrIf.ensures.stays c.args.m.now (record c.args.m.now { stack = c.branch_if.new.m }) c.branch_if.ensures.stays

pub returns-in-Return-clause-stays : goal.returns-in-Return-clause-stays
returns-in-Return-clause-stays c = c.reached-in-Return.ensures.stays c.args.m.now (record c.args.m.now { stack = c.leave.new.m }) tt

pub returns-in-Unreachable-clause-stays : goal.returns-in-Unreachable-clause-stays
returns-in-Unreachable-clause-stays c = c.reached-in-Unreachable.ensures.stays c.args.m.now c.args.m.now tt
