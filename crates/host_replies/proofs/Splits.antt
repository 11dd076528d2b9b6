-- Bytes in parts between separators, and lines.
use Rattle.std.proofs.Common.{◌≡◌, ℕ, ◌+◌, ◌-◌, ◌<◌, ◌≤◌, Bool, true, false, cond, List, [], ◌∷◌, length, take, drop, refl, sym, ap, ◌∙◌, arith, Option, Some, None}
use Rattle.std.specs.Prelude.{nat_lt, not, position, if◌then◌else◌}
use Rattle.std.specs.List.{slice_split, onto_first, position_or_len}
use Rattle.std.proofs.lemmas.Bool.{ltb-true, ltb-false}
use Rattle.std.proofs.lemmas.List.{take_rest, drop-drop}
use Rattle.std.proofs.lemmas.List.Splits.{slice_split_first, slice_split-cons_no}

-- no byte is a separator
none_split : {X : Type 0} (p : X → Bool) (xs : List X) → length xs ≤ position_or_len p xs → slice_split p xs ≡ xs ∷ []
none_split p [] past = refl
none_split {X} p (x ∷ xs) past = cases (p x) refl past (none_split p xs) where
  cases : (b : Bool) → p x ≡ b → length (x ∷ xs) ≤ cond (not b) (1 + position_or_len p xs) 0 → (length xs ≤ position_or_len p xs → slice_split p xs ≡ xs ∷ []) → slice_split p (x ∷ xs) ≡ (x ∷ xs) ∷ []
  cases true e more rest = absurd (omega arith)
  cases false e more rest = slice_split-cons_no p x xs e ∙ ap (onto_first x) (rest (omega arith))

place_known : {X : Type 0} (p : X → Bool) (xs : List X) (b : Bool) (o : Option ℕ) → nat_lt (position_or_len p xs) (length xs) ≡ b → position p xs ≡ o → o ≡ (if b then Some (position_or_len p xs) else None)
place_known p xs b o test is = sym is ∙ ap (λ (c : Bool). let none : Option ℕ = None in if c then Some (position_or_len p xs) else none) test

-- where there is one, it is inside, and cuts the list
pub split_inside : {X : Type 0} (p : X → Bool) (xs : List X) (at : ℕ) → position p xs ≡ Some at → at < length xs
split_inside p xs at is = cases (nat_lt (position_or_len p xs) (length xs)) refl where
  cases : (b : Bool) → nat_lt (position_or_len p xs) (length xs) ≡ b → at < length xs
  cases true e = let k = place_known p xs true (Some at) e is in let same : at ≡ position_or_len p xs = cc in omega (arith, same, ltb-true (position_or_len p xs) (length xs) e)
  cases false e = let k = place_known p xs false (Some at) e is in cc

pub split_some : (p : ℕ → Bool) (xs : List ℕ) (at : ℕ) → position p xs ≡ Some at → slice_split p xs ≡ take at xs ∷ slice_split p (drop (at + 1) xs)
split_some p xs at is = cases (nat_lt (position_or_len p xs) (length xs)) refl where
  cases : (b : Bool) → nat_lt (position_or_len p xs) (length xs) ≡ b → slice_split p xs ≡ take at xs ∷ slice_split p (drop (at + 1) xs)
  cases true e =
      let k = place_known p xs true (Some at) e is in
      let same : position_or_len p xs ≡ at = cc in
      slice_split_first p xs 0 (ltb-true (position_or_len p xs) (length xs) e) ∙ ap (λ (n : ℕ). take n xs ∷ slice_split p (drop (n + 1) xs)) same
  cases false e = let k = place_known p xs false (Some at) e is in cc

pub split_none : (p : ℕ → Bool) (xs : List ℕ) → position p xs ≡ None → slice_split p xs ≡ xs ∷ []
split_none p xs is = cases (nat_lt (position_or_len p xs) (length xs)) refl where
  cases : (b : Bool) → nat_lt (position_or_len p xs) (length xs) ≡ b → slice_split p xs ≡ xs ∷ []
  cases true e = let k = place_known p xs true None e is in cc
  cases false e = none_split p xs (ltb-false (position_or_len p xs) (length xs) e)

-- the part before the first separator, and what stands behind it
pub split_cut : (p : ℕ → Bool) (xs front back : List ℕ) (at : ℕ) → position p xs ≡ Some at → front ≡ take at xs → back ≡ drop at xs → slice_split p xs ≡ front ∷ slice_split p (take (length back - 1) (drop 1 back))
split_cut p xs front back at is before behind =
    split_some p xs at is ∙ ap (λ (f : List ℕ). f ∷ slice_split p (drop (at + 1) xs)) (sym before)
    ∙ ap (λ (r : List ℕ). front ∷ slice_split p r) (sym (take_rest back 1 ∙ ap (drop 1) behind ∙ drop-drop 1 at xs))
