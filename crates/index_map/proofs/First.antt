-- The first element that passes a test.
use Rattle.std.proofs.Common.{◌≡◌, ℕ, suc, ◌+◌, ◌<◌, Bool, true, false, cond, List, [], ◌∷◌, length, Some, None, refl, arith}
use Rattle.std.specs.List.{AllByRecursion, position_from}

pub position_within : {A : Type 0} (test : A → Bool) (xs : List A) (n i : ℕ) → position_from test n xs ≡ Some i → i < n + length xs
position_within test [] n i e = absurd (cc)
position_within test (x ∷ xs) n i e = by (test x) e (position_within test xs (n + 1) i)
  where
    by : (q : Bool) → cond q (Some n) (position_from test (n + 1) xs) ≡ Some i → (position_from test (n + 1) xs ≡ Some i → i < n + 1 + length xs) → i < n + suc (length xs)
    by true z ih = let same : n ≡ i = cc in omega (arith, same)
    by false z ih = let r = ih z in omega (arith, r)

-- none passes
pub none_passes : {A : Type 0} (test : A → Bool) (xs : List A) (n : ℕ) → position_from test n xs ≡ None → AllByRecursion (λ x. test x ≡ false) xs
none_passes test [] n e = tt
none_passes test (x ∷ xs) n e = by (test x) refl e (none_passes test xs (n + 1))
  where
    by : (q : Bool) → test x ≡ q → cond q (Some n) (position_from test (n + 1) xs) ≡ None → (position_from test (n + 1) xs ≡ None → AllByRecursion (λ y. test y ≡ false) xs) → (test x ≡ false) × AllByRecursion (λ y. test y ≡ false) xs
    by true z e' ih = absurd (cc)
    by false z e' ih = (z, ih e')
