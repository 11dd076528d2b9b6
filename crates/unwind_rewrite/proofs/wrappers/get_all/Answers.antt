use Rattle.std.proofs.Common.{rules, ◌≤◌, ◌<◌, ◌∙◌, arith}
use Rattle.unwind_rewrite.proofs.Bodies.{parameter_step, parameters_done}
use Rattle.unwind_rewrite.proofs.wrappers.get_all.Goals as goal

pub loop-x-preserved : goal.loop-x-preserved
loop-x-preserved c =
    let lt : c.loop-x.x < c.args.count = search rules in
    record {
      before = omega (arith, lt);
      so_far = λ k behind. c.loop-x.invariant.so_far k behind ∙ parameter_step c.args.count c.loop-x.x lt c.in_ok-basic.ensures k behind;
    }

pub returns : goal.returns
returns c =
    let ge : c.args.count ≤ c.loop-x.x = search rules in
    parameters_done c.args.count c.loop-x.x ge c.loop-x.invariant.so_far
