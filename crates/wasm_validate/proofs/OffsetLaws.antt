-- Offsets ascend, so that at most one instruction stands at each.
use Rattle.std.proofs.Common.{◌≡◌, ℕ, zero, suc, ◌+◌, ◌-◌, ◌<◌, ◌≤◌, ◌^◌, List, [], ◌∷◌, length, slice_get, refl, sym, ap, subst, ◌∙◌, arith}
use Rattle.std.proofs.lemmas.Option.{slice_get_within}
use Rattle.std.specs.Prelude.{true, false, Some, None, ◌⊎◌}
use Rattle.std.proofs.Common.{inl, inr, ⊎_elim}
use Rattle.wasm_syntax.specs.declared.instruction.Op.{Op}
use Rattle.wasm_syntax.specs.declared.parts.Body.{Body}
use Rattle.wasm_syntax.specs.declared.module.ModuleParts.{ModuleParts as Module}
use Rattle.wasm_syntax.specs.Module.{Ascend, InOrder, IsModule}
use Rattle.wasm_syntax.specs.Valid.{defined_index, body_of}
use Rattle.wasm_laws.proofs.Lists.{at_of, get_within}
use Rattle.validate_body.proofs.Options.{none_is}
use Rattle.wasm_validate.specs.calls.Instructions.{OpIs}
use Rattle.wasm_syntax.specs.Sizes.{WithinLimits, ShortBody}
use Rattle.wasm_validate.specs.inner.Offsets.{SplitsAt, IsNodeAt}
use Rattle.pm_text.proofs.Lists.{some_is}
use Rattle.wasm_syntax.proofs.Types.{then_found}

pub least_at : (least : ℕ) (ops : List Op) (k : ℕ) (b : Op) → Ascend least ops → slice_get ops k ≡ Some b → least ≤ b.at
least_at least [] k b a e = none_is e
least_at least (o ∷ os) zero b a e = let q : o ≡ b = some_is e in subst (λ x. least ≤ x.at) q a.0
least_at least (o ∷ os) (suc k) b a e = let r = least_at (suc o.at) os k b a.1 e in omega (arith, r, a.0)

ascends : (least : ℕ) (ops : List Op) (j k : ℕ) (a b : Op) → Ascend least ops → j < k → slice_get ops j ≡ Some a → slice_get ops k ≡ Some b → a.at < b.at
ascends least [] j k a b h lt e f = none_is e
ascends least (o ∷ os) j zero a b h lt e f = absurd (omega (arith, lt))
ascends least (o ∷ os) zero (suc k) a b h lt e f = let q : o ≡ a = some_is e in subst (λ x. x.at < b.at) q (let r = least_at (suc o.at) os k b h.1 f in omega (arith, r))
ascends least (o ∷ os) (suc j) (suc k) a b h lt e f = ascends (suc o.at) os j k a b h.1 (omega (arith, lt)) e f

three : (j i : ℕ) → (j < i) ⊎ ((j ≡ i) ⊎ (i < j))
three zero zero = inr (inl refl)
three zero (suc i) = inl (omega arith)
three (suc j) zero = inr (inr (omega arith))
three (suc j) (suc i) = ⊎_elim (λ a. inl (omega (arith, a))) (λ b. ⊎_elim (λ q. inr (inl (ap suc q))) (λ q. inr (inr (omega (arith, q)))) b) (three j i)

-- what is not at the split is nowhere
only_there : (ops : List Op) (at n k : ℕ) (o : Op) → Ascend 0 ops → SplitsAt ops at n → slice_get ops k ≡ Some o → o.at ≡ at → k ≡ n
only_there ops at n k o a s e q = ⊎_elim before (λ b. ⊎_elim (λ r. r) behind b) (three k n)
  where
    before : k < n → k ≡ n
    before lt =
        let p : 0 < n = omega (arith, lt) in
        let w = get_within ops (n - 1) (omega (arith, p, s.within)) in
        let l : w.0.at < at = s.low w.0 p w.1 in
        ⊎_elim (λ b. let c = ascends 0 ops k (n - 1) o w.0 a b e w.1 in absurd (omega (arith, c, l, q)))
        (λ b. ⊎_elim (λ r. let z : o ≡ w.0 = some_is (sym e ∙ ap (slice_get ops) r ∙ w.1) in let y : o.at ≡ w.0.at = ap (λ x. x.at) z in absurd (omega (arith, y, l, q))) (λ r. absurd (omega (arith, r, lt, p))) b) (three k (n - 1))

    behind : n < k → k ≡ n
    behind lt =
        let x = slice_get_within ops k o e in
        let w = get_within ops n (omega (arith, lt, x)) in
        let h : at ≤ w.0.at = s.high w.0 w.1 in
        let c = ascends 0 ops n k w.0 o a lt w.1 e in
        absurd (omega (arith, h, c, q))

pub in_order : (m : Module) (f : ℕ) (body : Body) → IsModule m → body_of m f ≡ Some body → Ascend 0 body.ops
in_order m f body h e = let i = then_found (defined_index m f) (slice_get m.bodies) body e in (at_of InOrder m.bodies i.0 body h.in_order i.2).offsets

pub not_there : (m : Module) (f at n : ℕ) (body : Body) → IsModule m → body_of m f ≡ Some body → SplitsAt body.ops at n → IsNodeAt false body.ops n at → OpIs None m f at
not_there m f at n body h e s free = λ b k o g x y z.
    let q : b ≡ body = some_is (sym g ∙ e) in
    let x' = subst (λ w. slice_get w.ops k ≡ Some o) q x in
    let k' : k ≡ n = only_there body.ops at n k o (in_order m f body h e) s x' y in
    free o (subst (λ w. slice_get body.ops w ≡ Some o) k' x') y z

pub few_ops : (m : Module) (f n at : ℕ) (body : Body) → WithinLimits m → body_of m f ≡ Some body → IsNodeAt true body.ops n at → n < 2 ^ 32
few_ops m f n at body l e h =
    let i = then_found (defined_index m f) (slice_get m.bodies) body e in
    let w = slice_get_within body.ops n h.0 h.1 in
    let k : length body.ops < 2 ^ 32 = (at_of ShortBody m.bodies i.0 body l.short.each_body i.2).ops in
    omega (arith, w, k)

-- ---- the search

pub low_more : (ops : List Op) (at middle : ℕ) (p : Op) → slice_get ops middle ≡ Some p → p.at < at → (o : Op) → 0 < middle + 1 → slice_get ops (middle + 1 - 1) ≡ Some o → o.at < at
low_more ops at middle p e lt o z f =
    let q : middle + 1 - 1 ≡ middle = omega arith in
    let r : p ≡ o = some_is (sym e ∙ sym (ap (slice_get ops) q) ∙ f) in
    subst (λ x. x.at < at) r lt

pub high_less : (ops : List Op) (at middle : ℕ) (p : Op) → slice_get ops middle ≡ Some p → at ≤ p.at → (o : Op) → slice_get ops middle ≡ Some o → at ≤ o.at
high_less ops at middle p e le o f = let r : p ≡ o = some_is (sym e ∙ f) in subst (λ x. at ≤ x.at) r le

pub past_end : (ops : List Op) (at : ℕ) (o : Op) → slice_get ops (length ops) ≡ Some o → at ≤ o.at
past_end ops at o e = let w = slice_get_within ops (length ops) o e in absurd (omega (arith, w))
