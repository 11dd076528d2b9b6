use Rattle.std.proofs.Common.{◌∙◌, sym, subst, add-one, arith}
use Rattle.machine_steps.specs.declared.layout.Stepped.TheVariants.{Next}
use Rattle.machine_steps.specs.calls.FramesMeet.{Meets, step_at}
use Rattle.machine_steps.proofs.BranchLaws.{end_inside, end_out}
use Rattle.machine_steps.proofs.branches.end.Goals as goal

pub returns-then-len-frame-clause-meets : goal.returns-then-len-frame-clause-meets
returns-then-len-frame-clause-meets c = λ x code h g r.
    subst (λ ks. Meets x Next (step_at x) (record c.args.m.now { controls = ks; position = c.args.next })) (sym c.discard.ensures)
    (end_inside x c.args.m.now code h c.args.next c.args.frame r c.requires.frame (omega arith) (c.requires.next ∙ add-one c.args.m.now.position))

pub returns-else-len-frame-clause-meets : goal.returns-else-len-frame-clause-meets
returns-else-len-frame-clause-meets c = λ x code h g r.
    end_out x c.args.m.now code h c.leave.result c.leave.new.m c.args.frame r c.requires.frame (omega arith) (c.leave.ensures x code h g)
