use Rattle.std.proofs.Common.{◌-◌, ◌<◌, ◌≤◌, length, sym, subst, arith}
use Rattle.machine_steps.specs.calls.FramesMeet.{Meets, branch_at}
use Rattle.machine_steps.proofs.BranchLaws.{branch_inside, branch_out, get_some}
use Rattle.machine_steps.proofs.branches.branch.Goals as goal

pub returns-in-Some-clause-meets : goal.returns-in-Some-clause-meets
returns-in-Some-clause-meets c = λ x code h g.
    let lt : c.args.n < length c.args.m.now.controls - c.args.frame.controls = omega arith in
    subst (λ a. Meets x a (branch_at x c.args.n) c.go.new.m) (sym c.inside.ensures.stepped)
    (branch_inside x c.args.m.now code h c.args.n (c.len-count.result - c.args.n - 1) c.in-Some.k c.args.frame c.go.result c.go.new.m c.requires lt (sym c.in-Some.ensures) (omega arith) c.go.ensures.goes)

pub returns-in-Some-clause-stays : goal.returns-in-Some-clause-stays
returns-in-Some-clause-stays c = c.inside.ensures.stays c.args.m.now c.go.new.m c.go.ensures.frames

pub returns-in-None-clause-meets : goal.returns-in-None-clause-meets
returns-in-None-clause-meets c = λ x code h g. absurd (get_some c.args.m.now.controls c.args.n (omega arith) (sym c.in-None.ensures))

pub returns-else-n-own-clause-meets : goal.returns-else-n-own-clause-meets
returns-else-n-own-clause-meets c = λ x code h g.
    let le : length c.args.m.now.controls - c.args.frame.controls ≤ c.args.n = omega arith in
    branch_out x c.args.m.now code h c.args.n c.args.frame c.leave.result c.leave.new.m c.requires le (c.leave.ensures x code h g)
