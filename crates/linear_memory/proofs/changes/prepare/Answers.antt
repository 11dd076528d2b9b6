use Rattle.std.proofs.Common.{arith, refl}
use Rattle.linear_memory.proofs.Changed.{both}
use Rattle.linear_memory.proofs.Contents.{length-contents}
use Rattle.linear_memory.proofs.changes.prepare.Goals as goal

pub make_all-requires-clause-inside : goal.make_all-requires-clause-inside
make_all-requires-clause-inside c = omega (arith, c.is_inside.ensures.inside c.if-not-is_inside.false, length-contents c.args.pages.now c.requires.whole)

pub returns-then-not-is_inside : goal.returns-then-not-is_inside
returns-then-not-is_inside c = (c.is_inside.ensures.out c.if-not-is_inside.true, refl)

pub returns-then-not-make_all : goal.returns-then-not-make_all
returns-then-not-make_all c =
    (c.is_inside.ensures.inside c.if-not-is_inside.false, c.make_all.ensures.refused c.if-not-make_all.true, λ all. both c.make_all.result (c.make_all.ensures.memory all) c.if-not-make_all.true)

pub returns : goal.returns
returns c =
    (c.is_inside.ensures.inside c.if-not-is_inside.false, c.make_all.ensures.contents, c.make_all.ensures.made c.if-not-make_all.false, c.make_all.ensures.whole)
