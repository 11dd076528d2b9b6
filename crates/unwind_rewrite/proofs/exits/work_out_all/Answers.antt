use Rattle.std.proofs.Common.{rules, ◌≤◌, ◌<◌, length, refl, arith}
use Rattle.unwind_rewrite.proofs.WorkedOut.{working_step, working_done}
use Rattle.unwind_rewrite.proofs.exits.work_out_all.Goals as goal

pub loop-number-init : goal.loop-number-init
loop-number-init c = record { before = omega arith; so_far = λ k behind. refl }

pub loop-number-preserved : goal.loop-number-preserved
loop-number-preserved c =
    let ks = c.derivations-found.result.now in
    let lt : c.loop-number.number < length ks = search rules in
    record { before = omega (arith, lt); so_far = working_step ks c.loop-number.number _ c.args.writer.now lt c.loop-number.invariant.so_far c.in_ok-work_out.ensures }

pub returns : goal.returns
returns c =
    let ks = c.derivations-found.result.now in
    let ge : length ks ≤ c.loop-number.number = search rules in
    working_done ks c.args.context.now.derivations c.loop-number.number c.args.writer.now c.derivations-found.ensures.list ge c.loop-number.invariant.so_far
