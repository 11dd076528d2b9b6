use Rattle.std.proofs.Common.{◌++◌, take, reverse, ◌∙◌, ap}
use Rattle.wasm_syntax.specs.Tree.{item_of}
use Rattle.dump_match.specs.Values.{can_be}
use Rattle.dump_match.specs.inner.Stands.{count_shown}
use Rattle.dump_match.proofs.Spots.{operands_judged}
use Rattle.dump_match.proofs.frames.operands_fit.Goals as goal

pub returns : goal.returns
returns c =
    let st = c.requires in
    let m = c.parts.ensures.value ∙ c.module.ensures.value in
    let n = c.shown_count-count.ensures.count st.body.targets ∙ ap (λ x. count_shown x (item_of st.body.targets c.args.stand.code) c.args.i c.args.stand.height) m in
    operands_judged c.args.m.now c.args.frame.now c.args.stand st c.args.i c.are_operands.result
    (c.are_operands.ensures st ∙ ap (λ k. can_be (take k (reverse (st.spot.here ++ st.spot.outside))) c.args.frame.now.operands) n)
