-- Types that the module has.
use Rattle.std.proofs.Common.{◌≡◌, ℕ, zero, suc, ◌<◌, Bool, true, false, if◌then◌else◌, List, [], ◌∷◌, ◌++◌, length, flat_map, get_or, refl, sym, subst, arith}
use Rattle.std.specs.Prelude.{◌==◌}
use Rattle.std.proofs.lemmas.Bool.Decides.{nat_tests}
use Rattle.rewrite_bodies.specs.Numbering.{is_in, distinct}
use Rattle.index_map.specs.inner.Used.{AllBelow}

pub left_below : (n : ℕ) (xs ys : List ℕ) → AllBelow n (xs ++ ys) → AllBelow n xs
left_below n [] ys h = tt
left_below n (x ∷ xs) ys h = (h.0, left_below n xs ys h.1)

pub right_below : (n : ℕ) (xs ys : List ℕ) → AllBelow n (xs ++ ys) → AllBelow n ys
right_below n [] ys h = h
right_below n (x ∷ xs) ys h = right_below n xs ys h.1

-- what one element uses
pub item_below : {A : Type 0} (n : ℕ) (f : A → List ℕ) (xs : List A) (i : ℕ) (d : A) → i < length xs → AllBelow n (flat_map f xs) → AllBelow n (f (get_or xs i d))
item_below n f [] i d lt h = absurd (omega arith)
item_below n f (x ∷ xs) zero d lt h = left_below n (f x) (flat_map f xs) h
item_below n f (x ∷ xs) (suc i) d lt h = item_below n f xs i d (omega (arith, lt)) (right_below n (f x) (flat_map f xs) h)

pub distinct_below : (n : ℕ) (xs : List ℕ) → AllBelow n xs → AllBelow n (distinct xs)
distinct_below n [] h = tt
distinct_below n (x ∷ xs) h = by (is_in x (distinct xs)) (distinct_below n xs h.1)
  where
    by : (q : Bool) → AllBelow n (distinct xs) → AllBelow n (if q then distinct xs else x ∷ distinct xs)
    by true k = k
    by false k = (h.0, k)

pub is_in_below : (n t : ℕ) (xs : List ℕ) → AllBelow n xs → is_in t xs ≡ true → t < n
is_in_below n t [] h e = absurd (cc)
is_in_below n t (x ∷ xs) h e = by (t == x) refl e (is_in_below n t xs h.1)
  where
    by : (q : Bool) → (t == x) ≡ q → (if q then true else is_in t xs) ≡ true → (is_in t xs ≡ true → t < n) → t < n
    by true z e' ih = let same : t ≡ x = grind (arith, nat_tests) in subst (λ y. y < n) (sym same) h.0
    by false z e' ih = ih e'
