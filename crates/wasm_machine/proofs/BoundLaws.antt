-- The first test that fails.
use Rattle.std.proofs.Common.{◌≡◌, ℕ, zero, suc, ◌<◌, List, [], ◌∷◌, length, map, get_or, refl, sym, ap, ◌∙◌, arith}
use Rattle.std.specs.Prelude.{Bool, true, false, None}
use Rattle.wasm_syntax.specs.Run.{first_false}

-- where none fails, each passes
pub each_passes : {A : Type 0} (p : A → Bool) (xs : List A) (n i : ℕ) (x : A) → first_false n (map p xs) ≡ None → i < length xs → get_or xs i x ≡ x → p x ≡ true
each_passes p [] n i x e lt g = absurd (omega arith)
each_passes p (y ∷ ys) n i x e lt g = by_test (p y) refl e (λ i lt g f. each_passes p ys (suc n) i x f lt g) i lt g
  where
    by_index : p y ≡ true → first_false (suc n) (map p ys) ≡ None → ((i : ℕ) → i < length ys → get_or ys i x ≡ x → first_false (suc n) (map p ys) ≡ None → p x ≡ true) → (i : ℕ) → i < length (y ∷ ys) → get_or (y ∷ ys) i x ≡ x → p x ≡ true
    by_index q f ih zero lt g = ap p (sym g) ∙ q
    by_index q f ih (suc i) lt g = ih i (omega arith) g f

    by_test : (b : Bool) → p y ≡ b → first_false n (b ∷ map p ys) ≡ None → ((i : ℕ) → i < length ys → get_or ys i x ≡ x → first_false (suc n) (map p ys) ≡ None → p x ≡ true) → (i : ℕ) → i < length (y ∷ ys) → get_or (y ∷ ys) i x ≡ x → p x ≡ true
    by_test true q f ih i lt g = by_index q f ih i lt g
    by_test false q f ih i lt g = absurd (cc)
