use Rattle.std.proofs.Common.{◌≡◌, ℕ, ◌+◌, List, drop, sym, ap, ◌∙◌, arith}
use Rattle.std.specs.Option.{option_copied}
use Rattle.wasm_syntax.specs.declared.parts.Body.{Body}
use Rattle.wasm_syntax.specs.Module.{type_at}
use Rattle.rewrite_modules.specs.Weight.{bodies_weight}
use Rattle.index_map.proofs.Steps.{body_weight, same_weight, bodies_more}
use Rattle.index_map.proofs.weights.bodies_weight.Goals as goal
use Rattle.index_map.proofs.weights.bodies_weight.Goals.{After-body_weight-sum}

-- the weight of the function that is looked at, and of those behind it
more : (c : After-body_weight-sum) → bodies_weight c.args.parts.now c.args.heights.now c.loop-i.i (drop c.loop-i.i c.as_slice-bodies.result.now) ≡ c.body_weight-sum.result + bodies_weight c.args.parts.now c.args.heights.now (c.loop-i.i + 1) (drop (c.loop-i.i + 1) c.as_slice-bodies.result.now)
more c =
    let m = c.args.parts.now in
    let heights = c.args.heights.now in
    let bodies = c.as_slice-bodies.result.now in
    let i = c.loop-i.i in
    let d = c.index-bodies-i.result in
    let type = c.type_of-ftype.ensures ∙ ap (λ (n : ℕ). type_at m (n + i)) c.len.ensures in
    let one = same_weight m heights i c.body_weight-sum.result d (option_copied c.type_of-ftype.result) c.heights_of.result.now type c.heights_of.ensures c.body_weight-sum.ensures ∙ ap (body_weight m heights i) c.index-bodies-i.is in
    bodies_more m heights bodies i d c.loop-i-test.true ∙ ap (λ (n : ℕ). n + bodies_weight m heights (i + 1) (drop (i + 1) bodies)) (sym one)

pub overflow_add-sum : goal.overflow_add-sum
overflow_add-sum c =
    let m = c.args.parts.now in
    let all = ap (λ (bs : List Body). bodies_weight m c.args.heights.now 0 bs) c.as_slice-bodies.ensures in
    omega (arith, more c, c.loop-i.invariant, c.requires.fits, all)

pub loop-i-preserved : goal.loop-i-preserved
loop-i-preserved c = omega (arith, more c, c.loop-i.invariant)
