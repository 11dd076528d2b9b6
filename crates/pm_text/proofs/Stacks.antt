-- A list in a vector, seen from its end.
use Rattle.std.proofs.Common.{◌≡◌, ℕ, zero, suc, ◌-◌, ◌<◌, List, [], ◌∷◌, ◌++◌, length, reverse, take, drop, refl, sym, ap, ◌∙◌, arith, length-append}
use Rattle.std.proofs.lemmas.List.{length-reverse, reverse-append, reverse-reverse, drop_all}
use Rattle.std.proofs.Math.Seq.{set-append_seam}
use Rattle.std.specs.Prelude.{slice_set}
use Rattle.pm_text.proofs.Lists.{reverse_take}

drop_most : {A : Type 0} (xs : List A) (n : ℕ) → drop (length xs - (length xs - n)) xs ≡ drop n xs
drop_most {A} [] n = drop_all (length {A = A} [] - (length {A = A} [] - n)) [] (omega arith) ∙ sym (drop_all n [] (omega arith))
drop_most {A} (x ∷ xs) zero = let p : length (x ∷ xs) - (length (x ∷ xs) - zero) ≡ zero = omega arith in ap (λ k. drop k (x ∷ xs)) p
drop_most {A} (x ∷ xs) (suc n) = by_length (length xs - n) refl
  where
    by_length : (k : ℕ) → length xs - n ≡ k → drop (length (x ∷ xs) - (length (x ∷ xs) - suc n)) (x ∷ xs) ≡ drop (suc n) (x ∷ xs)
    by_length zero e =
        let p : length (x ∷ xs) - (length (x ∷ xs) - suc n) ≡ suc (length xs) = omega arith in
        ap (λ k. drop k (x ∷ xs)) p ∙ drop_all (length xs) xs (omega arith) ∙ sym (drop_all n xs (omega arith))
    by_length (suc k) e =
        let p : length (x ∷ xs) - (length (x ∷ xs) - suc n) ≡ suc n = omega arith in
        ap (λ k. drop k (x ∷ xs)) p

pub discarded : {A : Type 0} (xs : List A) (n : ℕ) → reverse (take (length xs - n) xs) ≡ drop n (reverse xs)
discarded xs n =
    reverse_take xs (length xs - n) ∙ ap (λ k. drop (k - (k - n)) (reverse xs)) (sym (length-reverse xs)) ∙ drop_most (reverse xs) n

pub topmost_set : {A : Type 0} (xs : List A) (v : A) → 0 < length xs → reverse (slice_set xs (length xs - 1) v) ≡ slice_set (reverse xs) 0 v
topmost_set {A} xs v some = by_top (reverse xs) refl
  where
    by_top : (r : List A) → reverse xs ≡ r → reverse (slice_set xs (length xs - 1) v) ≡ slice_set r 0 v
    by_top [] e = absurd (omega (arith, length-reverse xs, ap length e))
    by_top (w ∷ below) e =
        let s : xs ≡ reverse below ++ w ∷ [] = sym (reverse-reverse xs) ∙ ap reverse e ∙ reverse-append (w ∷ []) below in
        let k : length xs - 1 ≡ length (reverse below) = omega (arith, ap length s, length-append (reverse below) (w ∷ [])) in
        rw (k, s, set-append_seam (reverse below) w [] v, reverse-append (reverse below) (v ∷ []), reverse-reverse below) refl
