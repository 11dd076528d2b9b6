use Rattle.std.proofs.Common.{map, refl, arith}
use Rattle.rewrite_code.specs.calls.KeptLandings.{landing, made_landing}
use Rattle.rewrite_code.proofs.Same.{none_before, not_here, found_here, found_nowhere}
use Rattle.rewrite_code.proofs.landing.number_of.Goals as goal

pub loop-number-init : goal.loop-number-init
loop-number-init c = record {
  list = refl;
  first = refl;
  second = refl;
  third = refl;
  fourth = refl;
  so_far = none_before (made_landing c.args.carried c.args.operands.now c.args.kind c.args.part) (map landing c.args.landings.now);
}

pub overflow_cast-result : goal.overflow_cast-result
overflow_cast-result c = omega (arith, c.loop-number-test.true, c.requires)

pub returns-then-is_for-clause-few : goal.returns-then-is_for-clause-few
returns-then-is_for-clause-few c = omega (arith, c.loop-number-test.true, c.requires)

pub returns-then-is_for-clause-number : goal.returns-then-is_for-clause-number
returns-then-is_for-clause-number c =
    found_here (made_landing c.args.carried c.args.operands.now c.args.kind c.args.part) c.args.landings.now c.loop-number.number c.index-landings-number.result c.is_for.result c.loop-number-test.true c.index-landings-number.is c.is_for.ensures c.if-is_for.true c.loop-number.invariant.so_far

pub loop-number-preserved : goal.loop-number-preserved
loop-number-preserved c = record {
  list = refl;
  first = refl;
  second = refl;
  third = refl;
  fourth = refl;
  so_far =
      not_here (made_landing c.args.carried c.args.operands.now c.args.kind c.args.part) c.args.landings.now c.loop-number.number c.index-landings-number.result c.is_for.result c.loop-number-test.true c.index-landings-number.is c.is_for.ensures c.if-is_for.false c.loop-number.invariant.so_far;
}

pub returns-clause-few : goal.returns-clause-few
returns-clause-few c = tt

pub returns-clause-number : goal.returns-clause-number
returns-clause-number c =
    found_nowhere (made_landing c.args.carried c.args.operands.now c.args.kind c.args.part) c.args.landings.now c.loop-number.number c.loop-number-test.false c.loop-number.invariant.so_far
