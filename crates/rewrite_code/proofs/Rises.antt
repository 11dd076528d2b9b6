-- Offsets that rise, and how one is found among them.
use Rattle.std.proofs.Common.{◌≡◌, ◌≢◌, ℕ, zero, suc, ◌+◌, ◌≤◌, ◌<◌, ◌==◌, ◌||◌, ◌⊎◌, inl, inr, List, [], ◌∷◌, ◌++◌, length, get_or, Bool, true, false, refl, sym, ap, ◌∙◌, subst, arith, Result, Ok, Err, length-append}
use Rattle.std.specs.Prelude.{MatchResult, is_ok}
use Rattle.std.specs.List.{list_any}
use Rattle.std.proofs.lemmas.Bool.{eq-eqb, eqb-true}
use Rattle.std.proofs.lemmas.List.{get_or_append_left}
use Rattle.std.proofs.Math.Seq.{get_or-append_seam}
use Rattle.rewrite_bodies.specs.calls.Facts.{among}
use Rattle.rewrite_code.specs.calls.Rising.{Rising}

pub any_among : (o : ℕ) (xs : List ℕ) → list_any (λ y. y == o) xs ≡ among o xs
any_among o [] = refl
any_among o (x ∷ xs) = ap (λ b. (x == o) || b) (any_among o xs)

pub among_at : (xs : List ℕ) (i o : ℕ) → i < length xs → get_or xs i 0 ≡ o → among o xs ≡ true
among_at [] i o lt e = absurd (omega (arith, lt))
among_at (x ∷ xs) zero o lt e = by_first (x == o) (eq-eqb x o e)
  where
    by_first : (b : Bool) → b ≡ true → (b || among o xs) ≡ true
    by_first true h = refl
    by_first false h = absurd (cc)
among_at (x ∷ xs) (suc i) o lt e = or_right (x == o) (among o xs) (among_at xs i o (omega (arith, lt)) e)
  where
    or_right : (a b : Bool) → b ≡ true → (a || b) ≡ true
    or_right true b h = refl
    or_right false b h = h

not_first : (x o : ℕ) (b : Bool) → x ≢ o → (x == o) ≡ b → b ≡ false
not_first x o true ne e = absurd (ne (eqb-true x o e))
not_first x o false ne e = refl

pub among_not : (xs : List ℕ) (o : ℕ) → ((k : ℕ) → k < length xs → get_or xs k 0 ≢ o) → among o xs ≡ false
among_not [] o h = refl
among_not (x ∷ xs) o h =
    ap (λ b. b || among o xs) (not_first x o (x == o) (h 0 (omega arith)) refl) ∙ among_not xs o (λ k lt. h (suc k) (omega (arith, lt)))

pub found_among : (xs : List ℕ) (o : ℕ) (r : Result ℕ ℕ) → MatchResult r (λ i. (i < length xs) × (get_or xs i 0 ≡ o)) (λ i. (i ≤ length xs) × ((k : ℕ) → k < i → get_or xs k 0 < o) × ((k : ℕ) → i ≤ k → k < length xs → o < get_or xs k 0)) → is_ok r ≡ among o xs
found_among xs o (Ok i) h = sym (among_at xs i o h.0 h.1)
found_among xs o (Err i) h = sym (among_not xs o (λ k lt e. apart k lt e))
  where
    apart : (k : ℕ) → k < length xs → get_or xs k 0 ≡ o → ⊥
    apart k lt e = by_side (le_or k i)
      where
        le_or : (a b : ℕ) → (a < b) ⊎ (b ≤ a)
        le_or zero zero = inr (omega arith)
        le_or zero (suc b) = inl (omega arith)
        le_or (suc a) zero = inr (omega arith)
        le_or (suc a) (suc b) = step (le_or a b)
          where
            step : (a < b) ⊎ (b ≤ a) → (suc a < suc b) ⊎ (suc b ≤ suc a)
            step (inl l) = inl (omega (arith, l))
            step (inr l) = inr (omega (arith, l))

        by_side : (k < i) ⊎ (i ≤ k) → ⊥
        by_side (inl l) = omega (arith, h.1 k l, e)
        by_side (inr l) = omega (arith, h.2 k l lt, e)

pub found_as : (xs : List ℕ) (o : ℕ) (r : Result ℕ ℕ) (b : Bool) → b ≡ is_ok r → MatchResult r (λ i. (i < length xs) × (get_or xs i 0 ≡ o)) (λ i. (i ≤ length xs) × ((k : ℕ) → k < i → get_or xs k 0 < o) × ((k : ℕ) → i ≤ k → k < length xs → o < get_or xs k 0)) → b ≡ among o xs
found_as xs o r b e h = e ∙ found_among xs o r h
