use Rattle.std.proofs.Common.{◌≤◌, ◌∙◌, get_or, arith}
use Rattle.rewrite_modules.specs.Multiple.{highest}
use Rattle.rewrite_modules.specs.Weight.{height_at}
use Rattle.index_map.proofs.Steps.{same_highest, heights_more}
use Rattle.index_map.proofs.limits.heights_over.Goals as goal

pub loop-i-preserved : goal.loop-i-preserved
loop-i-preserved c =
    let bodies = c.args.bodies.now in
    let heights = c.args.heights.now in
    let i = c.loop-i.i in
    let d = c.index-bodies-i.result in
    let is = same_highest heights i c.highest_of-count.result c.heights_of.result.now c.as_slice.result.now (get_or bodies i d).ops c.heights_of.ensures c.as_slice.ensures c.highest_of-count.ensures in
    let le : highest (height_at heights i) 0 (get_or bodies i d).ops ≤ 1000 = omega (arith, is, c.if-count-limit.false, c.limit.ensures) in
    c.loop-i.invariant ∙ heights_more heights bodies i d c.loop-i-test.true le
