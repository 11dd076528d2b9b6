use Rattle.std.proofs.Common.{arith, ◌<◌, ◌∙◌, IsTrue, false, length, map, sym, ap, subst}
use Rattle.wasm_syntax.proofs.Differ.{differ}
use Rattle.wasm_syntax.proofs.equality.ItemsCode.same.Goals as goal

no_truth : IsTrue false → ⊥
no_truth h = cc

pub returns-then-not-same : goal.returns-then-not-same
returns-then-not-same g c =
    let a = c.as_slice-a.result.now in
    let b = c.as_slice-b.result.now in
    let f = g.T.Code.code in
    let inside_a : c.loop-i.i < length a = omega arith in
    let inside_b : c.loop-i.i < length b = omega arith in (
      λ h. absurd (no_truth h),
      λ e. absurd (differ f a b c.loop-i.i c.index-a-i.result c.index-b-i.result inside_a inside_b c.index-a-i.is c.index-b-i.is
          (λ s. no_truth (subst IsTrue c.if-not-same.true (c.same.ensures.1 s)))
          (ap (map f) c.as_slice-a.ensures ∙ e ∙ sym (ap (map f) c.as_slice-b.ensures))),
    )
