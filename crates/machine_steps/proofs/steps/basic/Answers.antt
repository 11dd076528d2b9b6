use Rattle.std.proofs.Common.{◌≡◌, ◌+◌, ◌∷◌, ◌∙◌, sym, ap, subst, length, add-one}
use Rattle.wasm_syntax.specs.Machine.{joined}
use Rattle.machine_steps.specs.declared.layout.CallFrame.{CallFrame}
use Rattle.machine_steps.specs.calls.FramesMeet.{step_at}
use Rattle.machine_steps.proofs.BranchLaws.{first_of}
use Rattle.machine_steps.specs.declared.machine.Machine.{Machine}
use Rattle.machine_steps.specs.declared.machine.Outcome.TheVariants.{Trap, Import, NoMemory}
use Rattle.machine_steps.specs.calls.Meets.{MeetsAt}
use Rattle.machine_steps.specs.inner.Turns.{placed}
use Rattle.machine_steps.proofs.StepLaws.{basic_done, basic_traps}
use Rattle.machine_steps.proofs.steps.basic.Goals as goal

pub returns-in-Done-clause-meets : goal.returns-in-Done-clause-meets
returns-in-Done-clause-meets c = λ x code position h r.
    let base : c.args.frame.base ≡ length h.inner.vs_below = ap (λ (f : CallFrame). f.base) (sym (first_of c.args.m.now.stack.frames h.inner.e c.args.frame h.inner.es h.inner.es_are c.requires.frame)) ∙ h.inner.level.base in
    basic_done x (placed position c.args.m.now) code h c.args.instruction.now c.perform.new.values c.perform.new.shared (position + 1) r (add-one position)
    (c.in-Done.ensures.effect x.world (joined (x.label ∷ x.outer)) x.frame.locals h.inner.vs_below h.shares.holds h.inner.level.vs_are base)

pub returns-in-Trap-clause-meets : goal.returns-in-Trap-clause-meets
returns-in-Trap-clause-meets c = λ x code position h r.
    let base : c.args.frame.base ≡ length h.inner.vs_below = ap (λ (f : CallFrame). f.base) (sym (first_of c.args.m.now.stack.frames h.inner.e c.args.frame h.inner.es h.inner.es_are c.requires.frame)) ∙ h.inner.level.base in
    let same = c.in-Trap.ensures.same in
    let m_is : placed position c.args.m.now ≡ record c.args.m.now { stack = record c.args.m.now.stack { values = c.perform.new.values; position = position }; shared = c.perform.new.shared } = λ i. record c.args.m.now { stack = record c.args.m.now.stack { values = sym same.0 i; position = position }; shared = sym same.1 i } in
    subst (λ o. MeetsAt x o (step_at x) (record c.args.m.now { stack = record c.args.m.now.stack { values = c.perform.new.values; position = position }; shared = c.perform.new.shared })) (sym c.tell.ensures)
    (subst (λ (k : Machine). MeetsAt x (Trap c.in-Trap.kind) (step_at x) k) m_is
    (basic_traps x (placed position c.args.m.now) code h c.args.instruction.now c.in-Trap.kind c.perform.new.values c.perform.new.shared r
    (c.in-Trap.ensures.effect x.world (joined (x.label ∷ x.outer)) x.frame.locals h.inner.vs_below h.shares.holds h.inner.level.vs_are base)))

pub returns-in-NoMemory-clause-meets : goal.returns-in-NoMemory-clause-meets
returns-in-NoMemory-clause-meets c = λ x code position h r. rw c.tell-in-NoMemory.ensures tt

pub returns-in-Trap-clause-no_call : goal.returns-in-Trap-clause-no_call
returns-in-Trap-clause-no_call c = λ call e. let no : Trap c.in-Trap.kind ≡ Import call = sym c.tell.ensures ∙ e in cc

pub returns-in-NoMemory-clause-no_call : goal.returns-in-NoMemory-clause-no_call
returns-in-NoMemory-clause-no_call c = λ call e. let no : NoMemory ≡ Import call = sym c.tell-in-NoMemory.ensures ∙ e in cc
