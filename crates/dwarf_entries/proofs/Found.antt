-- What is found in the first part of a list, or else in the second.
use Rattle.std.proofs.Common.{◌≡◌, Bool, true, false, List, [], ◌∷◌, ◌++◌, Some, None, refl}
use Rattle.std.specs.Prelude.{find, if◌then◌else◌}

pub found_first : {A : Type 0} (f : A → Bool) (xs ys : List A) (x : A) → find f xs ≡ Some x → find f (xs ++ ys) ≡ Some x
found_first f [] ys x e = absurd cc
found_first f (y ∷ xs) ys x e = by_test f y xs ys x (f y) e (found_first f xs ys x)
  where
    by_test : {A : Type 0} (f : A → Bool) (y : A) (xs ys : List A) (x : A) (b : Bool) → (if b then Some y else find f xs) ≡ Some x → (find f xs ≡ Some x → find f (xs ++ ys) ≡ Some x)
        → (if b then Some y else find f (xs ++ ys)) ≡ Some x
    by_test f y xs ys x true e h = e
    by_test f y xs ys x false e h = h e

pub found_later : {A : Type 0} (f : A → Bool) (xs ys : List A) → find f xs ≡ None → find f (xs ++ ys) ≡ find f ys
found_later f [] ys e = refl
found_later f (y ∷ xs) ys e = by_test f y xs ys (f y) e (found_later f xs ys)
  where
    by_test : {A : Type 0} (f : A → Bool) (y : A) (xs ys : List A) (b : Bool) → (if b then Some y else find f xs) ≡ None → (find f xs ≡ None → find f (xs ++ ys) ≡ find f ys)
        → (if b then Some y else find f (xs ++ ys)) ≡ find f ys
    by_test f y xs ys true e h = absurd cc
    by_test f y xs ys false e h = h e
