use Rattle.std.proofs.Common.{rules, ◌<◌, length, refl, ◌∙◌, arith}
use Rattle.rewrite_code.proofs.Loads.{local_step}
use Rattle.rewrite_code.proofs.context.FunctionContext.hand_locals.Goals as goal

pub loop-x-preserved : goal.loop-x-preserved
loop-x-preserved c =
    let ls = c.locals-types.result.now in
    let lt : c.loop-x.x < length ls = search rules in
    record {
      same = refl;
      before = omega (arith, lt);
      so_far = λ k behind. c.loop-x.invariant.so_far k behind ∙ local_step c.args.self.now ls c.loop-x.x _ lt c.in_ok-basic.ensures c.in_ok-hand_value.ensures k behind;
    }
