-- A local in the groups.
use Rattle.std.proofs.Common.{◌≡◌, ℕ, zero, suc, ◌+◌, ◌-◌, ◌<◌, ◌≤◌, List, [], ◌∷◌, ◌++◌, length, drop, replicate, slice_get, get_or, refl, sym, ap, subst, ◌∙◌, arith, append_assoc, length-append}
use Rattle.std.specs.Prelude.{Some, option_map}
use Rattle.wasm_syntax.specs.declared.value.ValType.{ValType}
use Rattle.wasm_syntax.specs.declared.parts.LocalGroup.{LocalGroup}
use Rattle.wasm_syntax.specs.Module.{declared_locals}
use Rattle.std.proofs.lemmas.List.{append-nil}
use Rattle.std.proofs.lemmas.Option.{slice_get-get_or}
use Rattle.wasm_laws.proofs.Lists.{get_front}
use Rattle.validate_body.specs.inner.Locals.{ends, Splits}
use Rattle.pm_text.proofs.Lists.{get_behind}

pub ends_length : (n : ℕ) (gs : List LocalGroup) → length (ends n gs) ≡ length gs
ends_length n [] = refl
ends_length n (g ∷ gs) = ap suc (ends_length (n + g.count) gs)

ends_least : (n : ℕ) (gs : List LocalGroup) (i : ℕ) → i < length gs → n ≤ get_or (ends n gs) i 0
ends_least n [] i h = absurd (omega (arith, h))
ends_least n (g ∷ gs) zero h = omega arith
ends_least n (g ∷ gs) (suc i) h = omega (arith, ends_least (n + g.count) gs i (omega (arith, h)))

pub replicate_length : {A : Type 0} (n : ℕ) (x : A) → length (replicate n x) ≡ n
replicate_length zero x = refl
replicate_length (suc n) x = ap suc (replicate_length n x)

replicate_get : {A : Type 0} (n i : ℕ) (x : A) → i < n → slice_get (replicate n x) i ≡ Some x
replicate_get zero i x h = absurd (omega (arith, h))
replicate_get (suc n) zero x h = refl
replicate_get (suc n) (suc i) x h = replicate_get n i x (omega (arith, h))

in_group : (n i : ℕ) (t : ValType) (rest : List ValType) → i < n → slice_get (replicate n t ++ rest) i ≡ Some t
in_group n i t rest h = get_front (replicate n t) rest i (omega (arith, h, replicate_length n t)) ∙ replicate_get n i t h

behind_group : (n i : ℕ) (t : ValType) (rest : List ValType) → n ≤ i → slice_get (replicate n t ++ rest) i ≡ slice_get rest (i - n)
behind_group n i t rest h =
    let e : i ≡ length (replicate n t) + (i - n) = omega (arith, h, replicate_length n t) in
    ap (slice_get (replicate n t ++ rest)) e ∙ get_behind (replicate n t) rest (i - n)

pub found : (n y : ℕ) (gs : List LocalGroup) (at : ℕ) → n ≤ y → Splits (ends n gs) y at → slice_get (declared_locals gs) (y - n) ≡ option_map (λ g. g.vtype) (slice_get gs at)
found n y [] at le s = refl
found n y (g ∷ gs) zero le s = in_group g.count (y - n) g.vtype (declared_locals gs) (omega (arith, le, s.high (omega arith)))
found n y (g ∷ gs) (suc at) le s =
    let m : n + g.count ≤ y = least at s in
    let e : y - n - g.count ≡ y - (n + g.count) = omega (arith, m) in
    behind_group g.count (y - n) g.vtype (declared_locals gs) (omega (arith, m)) ∙ ap (slice_get (declared_locals gs)) e
    ∙ found (n + g.count) y gs at m (record {
      within = omega (arith, s.within);
      low = λ p. by_at at p (s.low (omega arith));
      high = λ p. s.high (omega (arith, p));
    })
  where
    by_at : (at : ℕ) → 0 < at → get_or (ends n (g ∷ gs)) (suc at - 1) 0 ≤ y → get_or (ends (n + g.count) gs) (at - 1) 0 ≤ y
    by_at zero p h = absurd (omega arith)
    by_at (suc at) p h =
        let e : suc (suc at) - 1 ≡ suc at = omega arith in
        let f : suc at - 1 ≡ at = omega arith in
        subst (λ i. get_or (ends (n + g.count) gs) i 0 ≤ y) (sym f) (subst (λ i. get_or (ends n (g ∷ gs)) i 0 ≤ y) e h)

    least : (at : ℕ) → Splits (ends n (g ∷ gs)) y (suc at) → n + g.count ≤ y
    least zero s = let e : suc 0 - 1 ≡ 0 = omega arith in subst (λ i. get_or (ends n (g ∷ gs)) i 0 ≤ y) e (s.low (omega arith))
    least (suc at) s =
        let k : at < length gs = omega (arith, s.within, ends_length (n + g.count) gs) in
        let l : n + g.count ≤ get_or (ends (n + g.count) gs) at 0 = ends_least (n + g.count) gs at k in
        let e : suc (suc at) - 1 ≡ suc at = omega arith in
        let h : get_or (ends (n + g.count) gs) at 0 ≤ y = subst (λ i. get_or (ends n (g ∷ gs)) i 0 ≤ y) e (s.low (omega arith)) in
        omega (arith, l, h)

-- ---- the search

pub halve_low : (es : List ℕ) (n low high middle : ℕ) → middle < length es → get_or es middle 0 ≤ n → 0 < middle + 1 → get_or es (middle + 1 - 1) 0 ≤ n
halve_low es n low high middle w h p = let e : middle + 1 - 1 ≡ middle = omega arith in subst (λ i. get_or es i 0 ≤ n) (sym e) h

-- ---- the ends

pub ends_more : (done : List ℕ) (end : ℕ) (gs : List LocalGroup) (i : ℕ) (g : LocalGroup) (all : List ℕ) → slice_get gs i ≡ Some g → done ++ ends end (drop i gs) ≡ all → (done ++ (end + g.count) ∷ []) ++ ends (end + g.count) (drop (i + 1) gs) ≡ all
ends_more done end gs i g all e h =
    append_assoc done ((end + g.count) ∷ []) (ends (end + g.count) (drop (i + 1) gs)) ∙ ap (λ z. done ++ ends end z) (sym (drop_next gs i g e)) ∙ h
  where
    drop_next : (gs : List LocalGroup) (i : ℕ) (g : LocalGroup) → slice_get gs i ≡ Some g → drop i gs ≡ g ∷ drop (i + 1) gs
    drop_next [] i g e = absurd (cc)
    drop_next (x ∷ xs) zero g e = let q : x ≡ g = cc in ap (λ z. z ∷ xs) q
    drop_next (x ∷ xs) (suc i) g e = let q : suc i + 1 ≡ suc (i + 1) = omega arith in rw q (drop_next xs i g e)

pub left_more : (end total : ℕ) (gs : List LocalGroup) (i : ℕ) (g : LocalGroup) → slice_get gs i ≡ Some g → end + length (declared_locals (drop i gs)) ≡ total → end + g.count + length (declared_locals (drop (i + 1) gs)) ≡ total
left_more end total [] i g e h = absurd (cc)
left_more end total (x ∷ xs) zero g e h =
    let q : x ≡ g = cc in
    let c : x.count ≡ g.count = ap (λ z. z.count) q in
    let l : length (replicate x.count x.vtype ++ declared_locals xs) ≡ length (replicate x.count x.vtype) + length (declared_locals xs) = length-append (replicate x.count x.vtype) (declared_locals xs) in
    omega (arith, h, c, l, replicate_length x.count x.vtype)
left_more end total (x ∷ xs) (suc i) g e h = let q : suc i + 1 ≡ suc (i + 1) = omega arith in rw q (left_more end total xs i g e h)

pub none_left : (done : List ℕ) (end : ℕ) (gs : List LocalGroup) (i : ℕ) (all : List ℕ) → length gs ≤ i → done ++ ends end (drop i gs) ≡ all → done ≡ all
none_left done end gs i all le h = sym (append-nil done) ∙ ap (λ z. done ++ ends end z) (sym (drop_all gs i le)) ∙ h
  where
    drop_all : (gs : List LocalGroup) (i : ℕ) → length gs ≤ i → drop i gs ≡ []
    drop_all [] zero le = refl
    drop_all [] (suc i) le = refl
    drop_all (x ∷ xs) zero le = absurd (omega (arith, le))
    drop_all (x ∷ xs) (suc i) le = drop_all xs i (omega (arith, le))

-- ---- a local

pub param_at : (ps ls : List ValType) (x : ℕ) (d : ValType) → x < length ps → Some (get_or ps x d) ≡ slice_get (ps ++ ls) x
param_at ps ls x d h = sym (get_front ps ls x h ∙ slice_get-get_or ps x d h)

pub local_at : (ps : List ValType) (gs : List LocalGroup) (x at : ℕ) → length ps ≤ x → Splits (ends 0 gs) (x - length ps) at → slice_get (ps ++ declared_locals gs) x ≡ option_map (λ g. g.vtype) (slice_get gs at)
local_at ps gs x at le s =
    let e : x ≡ length ps + (x - length ps) = omega (arith, le) in
    let z : x - length ps - 0 ≡ x - length ps = omega arith in
    ap (slice_get (ps ++ declared_locals gs)) e ∙ get_behind ps (declared_locals gs) (x - length ps) ∙ ap (slice_get (declared_locals gs)) (sym z) ∙ found 0 (x - length ps) gs at (omega arith) s
