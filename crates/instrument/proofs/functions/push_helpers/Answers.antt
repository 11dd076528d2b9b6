use Rattle.std.proofs.Common.{◌++◌, ◌∷◌, [], ℕ, List, map, take, sym, ap, ◌∙◌, append_assoc}
use Rattle.std.proofs.lemmas.List.{map_more}
use Rattle.instrument.proofs.functions.push_helpers.Goals as goal

pub loop-preserved : goal.loop-preserved
loop-preserved c =
    let out = c.args.out.now in
    let helped = c.args.helped.now in
    let t = c.args.ftype in
    c.in_ok-push.ensures.ok ∙ ap (λ (xs : List ℕ). xs ++ t ∷ []) c.loop.invariant
    ∙ append_assoc out (map (λ (u : ℕ). t) (take c.loop.index helped)) (t ∷ [])
    ∙ ap (λ (ys : List ℕ). out ++ ys) (sym (map_more (λ (u : ℕ). t) helped c.loop.index 0 c.loop-test.true))
