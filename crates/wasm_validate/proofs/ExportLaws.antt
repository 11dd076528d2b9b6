-- Names of exports, and whether an earlier one has them.
use Rattle.std.proofs.Common.{◌≡◌, ℕ, zero, suc, ◌+◌, ◌<◌, List, [], ◌∷◌, length, take, slice_get, get_or, refl, sym, ap, subst, ◌∙◌, arith}
use Rattle.std.proofs.lemmas.List.Folds.{list_any_more}
use Rattle.std.proofs.lemmas.Option.{slice_get-get_or, slice_get_within}
use Rattle.std.proofs.lemmas.Slice.Eq.{bytes_eq-Decides}
use Rattle.std.specs.Prelude.{Bool, true, false, ◌||◌, bytes_eq, cond, is_some, Option, Some, None}
use Rattle.std.specs.List.{list_any}
use Rattle.wasm_syntax.specs.declared.parts.Export.{Export}
use Rattle.wasm_syntax.specs.declared.module.ModuleParts.{ModuleParts as Module}
use Rattle.wasm_syntax.specs.Valid.{ExportFine, index_space}
use Rattle.pm_text.proofs.Lists.{some_is}

ne_is : (xs ys : List ℕ) → bytes_eq xs ys ≡ false → xs ≡ ys → ⊥
ne_is xs ys e q = let t : false ≡ true = sym e ∙ (bytes_eq-Decides xs ys).1 q in cc

same_eq : (xs ys : List ℕ) → xs ≡ ys → bytes_eq xs ys ≡ true
same_eq xs ys e = by_test (bytes_eq xs ys) refl
  where
    by_test : (b : Bool) → bytes_eq xs ys ≡ b → bytes_eq xs ys ≡ true
    by_test true q = q
    by_test false q = absurd (ne_is xs ys q e)

other_ne : (xs ys : List ℕ) → (xs ≡ ys → ⊥) → bytes_eq xs ys ≡ false
other_ne xs ys n = by_test (bytes_eq xs ys) refl
  where
    by_test : (b : Bool) → bytes_eq xs ys ≡ b → bytes_eq xs ys ≡ false
    by_test true q = absurd (n ((bytes_eq-Decides xs ys).0 q))
    by_test false q = q

-- an element that passes a test is there, or none is
any_found : (p : Export → Bool) (xs : List Export) (i : ℕ) → list_any p (take i xs) ≡ true → (j : ℕ) × (x : Export) × (j < i) × (slice_get xs j ≡ Some x) × (p x ≡ true)
any_found p [] zero e = absurd (cc)
any_found p [] (suc i) e = absurd (cc)
any_found p (x ∷ xs) zero e = absurd (cc)
any_found p (x ∷ xs) (suc i) e = by_test (λ k. any_found p xs i k) (p x) refl e
  where
    by_test : (list_any p (take i xs) ≡ true → (j : ℕ) × (y : Export) × (j < i) × (slice_get xs j ≡ Some y) × (p y ≡ true)) → (b : Bool) → p x ≡ b → (b || list_any p (take i xs)) ≡ true → (j : ℕ) × (y : Export) × (j < suc i) × (slice_get (x ∷ xs) j ≡ Some y) × (p y ≡ true)
    by_test more true q e = (zero, x, omega arith, refl, q)
    by_test more false q e = let r = more e in (suc r.0, r.1, omega (arith, r.2), r.3, r.4)

none_found : (p : Export → Bool) (xs : List Export) (i j : ℕ) (x : Export) → list_any p (take i xs) ≡ false → j < i → slice_get xs j ≡ Some x → p x ≡ false
none_found p [] i j x e lt g = absurd (cc)
none_found p (y ∷ xs) zero j x e lt g = absurd (omega (arith, lt))
none_found p (y ∷ xs) (suc i) j x e lt g = by_test (λ k l m h. none_found p xs i k x l m h) (p y) refl e j lt g
  where
    by_test : ((k : ℕ) → list_any p (take i xs) ≡ false → k < i → slice_get xs k ≡ Some x → p x ≡ false) → (b : Bool) → p y ≡ b → (b || list_any p (take i xs)) ≡ false → (j : ℕ) → j < suc i → slice_get (y ∷ xs) j ≡ Some x → p x ≡ false
    by_test more true q e j lt g = absurd (cc)
    by_test more false q e zero lt g = subst (λ z. p z ≡ false) (some_is g) q
    by_test more false q e (suc j) lt g = more j e (omega (arith, lt)) g

pub repeated : (m : Module) (i : ℕ) (e : Export) (name : List ℕ) (old : Option ℕ) (n : ℕ) → name ≡ e.name → old ≡ Some n → is_some old ≡ list_any (λ x. bytes_eq name x.name) (take i m.exports) → ExportFine m i e → ⊥
repeated m i e name old n q o s f =
    let t : list_any (λ x. bytes_eq name x.name) (take i m.exports) ≡ true = sym s ∙ ap (λ z. is_some z) o in
    let r = any_found (λ x. bytes_eq name x.name) m.exports i t in
    f.1 r.0 r.1 r.2 r.3 (sym ((bytes_eq-Decides name r.1.name).0 r.4) ∙ q)

pub distinct : (m : Module) (i : ℕ) (e : Export) (name : List ℕ) (old : Option ℕ) → name ≡ e.name → old ≡ None → is_some old ≡ list_any (λ x. bytes_eq name x.name) (take i m.exports) → e.index < index_space m e.kind → ExportFine m i e
distinct m i e name old p o s lt =
    let t : list_any (λ x. bytes_eq name x.name) (take i m.exports) ≡ false = sym s ∙ ap (λ z. is_some z) o in
    (lt, λ j f l g q. ne_is name f.name (none_found (λ x. bytes_eq name x.name) m.exports i j f t l g) (p ∙ sym q))

-- the names so far, with one more
pub seen_next : (exports : List Export) (i : ℕ) (e : Export) (q : List ℕ) (old new : Option ℕ) (n : ℕ) → slice_get exports i ≡ Some e → is_some old ≡ list_any (λ x. bytes_eq q x.name) (take i exports) → new ≡ cond (bytes_eq e.name q) (Some n) old → is_some new ≡ list_any (λ x. bytes_eq q x.name) (take (i + 1) exports)
seen_next exports i e q old new n g s u =
    let lt : i < length exports = slice_get_within exports i e g in
    let z : get_or exports i e ≡ e = some_is (sym (slice_get-get_or exports i e lt) ∙ g) in
    let m : list_any (λ x. bytes_eq q x.name) (take (i + 1) exports) ≡ (list_any (λ x. bytes_eq q x.name) (take i exports) || bytes_eq q e.name) =
    list_any_more (λ x. bytes_eq q x.name) exports i e lt ∙ ap (λ x. list_any (λ x. bytes_eq q x.name) (take i exports) || bytes_eq q x.name) z in
    by_test (bytes_eq e.name q) refl m
  where
    or_true : (b : Bool) → true ≡ (b || true)
    or_true true = refl
    or_true false = refl

    or_false : (b : Bool) → b ≡ (b || false)
    or_false true = refl
    or_false false = refl

    by_test : (b : Bool) → bytes_eq e.name q ≡ b → list_any (λ x. bytes_eq q x.name) (take (i + 1) exports) ≡ (list_any (λ x. bytes_eq q x.name) (take i exports) || bytes_eq q e.name) → is_some new ≡ list_any (λ x. bytes_eq q x.name) (take (i + 1) exports)
    by_test true t m =
        let r : bytes_eq q e.name ≡ true = same_eq q e.name (sym ((bytes_eq-Decides e.name q).0 t)) in
        let w : new ≡ Some n = u ∙ ap (λ b. cond b (Some n) old) t in
        ap (λ o. is_some o) w ∙ or_true (list_any (λ x. bytes_eq q x.name) (take i exports)) ∙ ap (λ b. list_any (λ x. bytes_eq q x.name) (take i exports) || b) (sym r) ∙ sym m
    by_test false t m =
        let r : bytes_eq q e.name ≡ false = other_ne q e.name (λ h. ne_is e.name q t (sym h)) in
        let w : new ≡ old = u ∙ ap (λ b. cond b (Some n) old) t in
        ap (λ o. is_some o) w ∙ s ∙ or_false (list_any (λ x. bytes_eq q x.name) (take i exports)) ∙ ap (λ b. list_any (λ x. bytes_eq q x.name) (take i exports) || b) (sym r) ∙ sym m
