use Rattle.std.proofs.Common.{refl, sym, inl, ◌∙◌}
use Rattle.machine_steps.proofs.Points.{no_top}
use Rattle.machine_steps.proofs.BlockLaws.{other_top}
use Rattle.machine_steps.specs.declared.machine.Outcome.TheVariants.{Trap, Stuck}
use Rattle.machine_steps.specs.declared.indirect.Entry.TheVariants as entries
use Rattle.machine_steps.proofs.ImportLaws.{indirect_meets, indirect_stuck, top_value, top_none}
use Rattle.machine_steps.proofs.steps.indirect.Goals as goal

pub returns-in-Function : goal.returns-in-Function
returns-in-Function c = λ x code h ce ip de r.
    let v = top_value c.args.m.now.stack.values _ (rw c.in-Some-I32.field-0-is at c.in-Some-I32.ensures) in
    indirect_meets x c.args.m.now code h c.args.t c.in-Some-I32.index v.0 (entries.Function c.in-Function.function) c.under_index.result c.under_index.new.m r v.1
    (c.in-Function.ensures x.engine x.world ip.numbers (h.shares.table ∙ sym c.as_slice.ensures)) (λ place. c.under_index.ensures x code place h ce ip de)

pub returns-in-Trap : goal.returns-in-Trap
returns-in-Trap c = λ x code h ce ip de r.
    let v = top_value c.args.m.now.stack.values _ (rw c.in-Some-I32.field-0-is at c.in-Some-I32.ensures) in
    indirect_meets x c.args.m.now code h c.args.t c.in-Some-I32.index v.0 (entries.Trap c.in-Trap.kind) (Trap c.in-Trap.kind) c.args.m.now r v.1
    (c.in-Trap.ensures x.engine x.world ip.numbers (h.shares.table ∙ sym c.as_slice.ensures)) (refl, refl)

pub returns-in-Stuck : goal.returns-in-Stuck
returns-in-Stuck c = λ x code h ce ip de r.
    let v = top_value c.args.m.now.stack.values _ (rw c.in-Some-I32.field-0-is at c.in-Some-I32.ensures) in
    indirect_meets x c.args.m.now code h c.args.t c.in-Some-I32.index v.0 entries.Stuck Stuck c.args.m.now r v.1
    (c.in-Stuck.ensures x.engine x.world ip.numbers (h.shares.table ∙ sym c.as_slice.ensures)) tt

pub returns-in-Some-I64 : goal.returns-in-Some-I64
returns-in-Some-I64 c = λ x code h ce ip de r.
    let v = top_value c.args.m.now.stack.values _ (rw c.in-Some-I64.field-0-is at c.in-Some-I64.ensures) in
    indirect_stuck x c.args.m.now code h c.args.t Stuck c.args.m.now r (other_top x c.args.m.now.stack code h.inner _ v.0 v.1)

pub returns-in-None : goal.returns-in-None
returns-in-None c = λ x code h ce ip de r. indirect_stuck x c.args.m.now code h c.args.t Stuck c.args.m.now r (inl (no_top x c.args.m.now.stack code h.inner (top_none c.args.m.now.stack.values c.in-None.ensures)))
