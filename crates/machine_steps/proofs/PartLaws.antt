-- The instructions from a position on.
use Rattle.std.proofs.Common.{◌≡◌, ℕ, zero, suc, ◌-◌, ◌<◌, List, [], ◌∷◌, length, refl, sym, ap, subst, ◌∙◌, arith}
use Rattle.std.specs.Prelude.{Some, None, slice_get, take, drop}

module _ {X : Type 0} where
  -- the first one of a part is the one at its position
  pub record First (xs : List X) (here n : ℕ) (part : List X) (y : X) : Type 0 where
    pub at : slice_get xs here ≡ Some y
    pub below : here < length xs
    pub some : 0 < n
    pub one : 0 < length part
    pub rest : take (n - 1) (drop (suc here) xs) ≡ drop 1 part

  front : (xs : List X) (here n : ℕ) (y : X) → slice_get (take n (drop here xs)) 0 ≡ Some y → First xs here n (take n (drop here xs)) y
  front [] zero zero y e = absurd (cc)
  front [] zero (suc n) y e = absurd (cc)
  front [] (suc h) zero y e = absurd (cc)
  front [] (suc h) (suc n) y e = absurd (cc)
  front (x ∷ xs) zero zero y e = absurd (cc)
  front (x ∷ xs) zero (suc n) y e =
      let one : suc n - 1 ≡ n = omega arith in
      record { at = e; below = omega arith; some = omega arith; one = omega arith; rest = ap (λ k. take k xs) one }
  front (x ∷ xs) (suc h) n y e =
      let f = front xs h n y e in
      let lt = f.below in
      record { at = f.at; below = omega (arith, lt); some = f.some; one = f.one; rest = f.rest }

  pub first_of_part : (xs : List X) (here n : ℕ) (part : List X) (y : X) → take n (drop here xs) ≡ part → Some y ≡ slice_get part 0 → First xs here n part y
  first_of_part xs here n part y e g = subst (λ p. First xs here n p y) e (front xs here n y (ap (λ p. slice_get p 0) e ∙ sym g))

  -- what is left of a part behind its first one
  take_all : (xs : List X) → take (length xs) xs ≡ xs
  take_all [] = refl
  take_all (x ∷ xs) = ap (λ l. x ∷ l) (take_all xs)

  pub behind_first : (part : List X) → take (length part - 1) (drop 1 part) ≡ drop 1 part
  behind_first [] = refl
  behind_first (x ∷ xs) = let one : length (x ∷ xs) - 1 ≡ length xs = omega arith in ap (λ k. take k xs) one ∙ take_all xs

  pub one_fewer : (part : List X) → length (take (length part - 1) (drop 1 part)) ≡ length part - 1
  one_fewer [] = refl
  one_fewer (x ∷ xs) = let one : length (x ∷ xs) - 1 ≡ length xs = omega arith in ap length (behind_first (x ∷ xs)) ∙ sym one

  -- a part without a first one is over
  pub empty_part : (part : List X) → None ≡ slice_get part 0 → length part ≡ 0
  empty_part [] e = refl
  empty_part (x ∷ xs) e = absurd (cc)

  -- behind a part that is over there is none
  pub none_behind : (xs : List X) (here n : ℕ) → 0 < n → length (take n (drop here xs)) ≡ 0 → slice_get xs here ≡ None
  none_behind [] h n lt e = refl
  none_behind (x ∷ xs) zero zero lt e = absurd (omega (arith, lt))
  none_behind (x ∷ xs) zero (suc n) lt e = absurd (omega (arith, e))
  none_behind (x ∷ xs) (suc h) n lt e = none_behind xs h n lt e
