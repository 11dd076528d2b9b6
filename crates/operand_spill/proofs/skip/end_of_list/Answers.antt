use Rattle.std.proofs.Common.{sym, ◌∙◌, arith}
use Rattle.operand_spill.proofs.Skips.{skip_more, list_ends, code_ends}
use Rattle.operand_spill.proofs.skip.end_of_list.Goals as goal

pub returns-in-None-clause-end : goal.returns-in-None-clause-end
returns-in-None-clause-end c = λ targets nodes dues e.
    list_ends targets c.args.ops.now nodes dues c.args.from c.loop-i.i _ c.loop-i.depth e (c.loop-i.invariant.so_far targets) c.loop-i-test.true (sym c.in-None.is ∙ c.passed.ensures.value targets)

pub loop-i-preserved : goal.loop-i-preserved
loop-i-preserved c = record {
  forward = omega (arith, c.loop-i.invariant.forward);
  within = λ le. omega (arith, c.loop-i-test.true);
  shallow = omega (arith, c.loop-i.invariant.forward, c.loop-i.invariant.shallow, c.in-Some.ensures.bound);
  so_far = λ targets. c.loop-i.invariant.so_far targets ∙ skip_more targets c.args.ops.now c.loop-i.i _ c.loop-i.depth c.in-Some.inside c.loop-i-test.true (sym c.in-Some.is ∙ c.passed.ensures.value targets);
}

pub returns-clause-end : goal.returns-clause-end
returns-clause-end c = λ targets nodes dues e.
    code_ends targets c.args.ops.now nodes dues c.args.from c.loop-i.i c.loop-i.depth e (c.loop-i.invariant.so_far targets) c.loop-i-test.false
