use Rattle.std.proofs.Common.{refl, arith}
use Rattle.rewrite_code.proofs.Same.{unlike, alike_so_far, unlike_here, alike_all}
use Rattle.rewrite_code.proofs.landing.same_places.Goals as goal

pub returns-then-a-b : goal.returns-then-a-b
returns-then-a-b c = unlike c.args.a.now c.args.b.now c.if-a-b.true

pub returns-then-not-same_place : goal.returns-then-not-same_place
returns-then-not-same_place c =
    unlike_here c.args.a.now c.args.b.now c.loop-left.left _ _ c.same_place.result c.loop-left-test.true c.loop-left.invariant.low c.loop-left.invariant.as_many c.same_place.ensures c.if-not-same_place.true c.loop-left.invariant.so_far

pub loop-left-preserved : goal.loop-left-preserved
loop-left-preserved c = record {
  first = refl;
  second = refl;
  low = omega (arith, c.loop-left.invariant.low);
  as_many = c.loop-left.invariant.as_many;
  so_far = alike_so_far c.args.a.now c.args.b.now c.loop-left.left _ _ c.same_place.result c.loop-left-test.true c.loop-left.invariant.low c.loop-left.invariant.as_many c.same_place.ensures c.if-not-same_place.false c.loop-left.invariant.so_far;
}

pub returns : goal.returns
returns c =
    let none = c.loop-left-test.false in
    alike_all c.args.a.now c.args.b.now c.loop-left.left (omega (arith, none)) c.loop-left.invariant.so_far
