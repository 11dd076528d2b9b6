-- Lists at an index, what equal options hold, and the test of an order.
use Rattle.std.proofs.Common.{◌≡◌, ℕ, zero, suc, ◌+◌, ◌-◌, ◌<◌, List, [], ◌∷◌, ◌++◌, length, take, drop, reverse, slice_get, Some, unwrap_or, refl, sym, ap, ◌∙◌, arith, cond, eqb, ltb, Bool, true, false}
use Rattle.std.specs.List.{range_with_len}
use Rattle.std.proofs.lemmas.List.{reverse-append, length-reverse, take-append-drop, drop_at, length-drop}
use Rattle.std.specs.Ordering.{nat_cmp, is_eq}
use Rattle.std.specs.declared.cmp.Ordering.TheVariants.{Less, Equal, Greater}

pub some_is : {A : Type 0} {a b : A} → Some a ≡ Some b → a ≡ b
some_is {a} e = ap (λ o. unwrap_or o a) e

-- in front of more, behind others, and the last one
pub get_front : {A : Type 0} (xs ys : List A) (i : ℕ) (x : A) → slice_get xs i ≡ Some x → slice_get (xs ++ ys) i ≡ Some x
get_front [] ys i x e = absurd (cc)
get_front (y ∷ xs) ys zero x e = e
get_front (y ∷ xs) ys (suc i) x e = get_front xs ys i x e

pub get_behind : {A : Type 0} (xs ys : List A) (i : ℕ) → slice_get (xs ++ ys) (length xs + i) ≡ slice_get ys i
get_behind [] ys i = ap (slice_get ys) (omega arith)
get_behind (x ∷ xs) ys i = let e : length (x ∷ xs) + i ≡ suc (length xs + i) = omega arith in ap (slice_get (x ∷ (xs ++ ys))) e ∙ get_behind xs ys i

pub get_last : {A : Type 0} (xs : List A) (x : A) → slice_get (xs ++ x ∷ []) (length xs) ≡ Some x
get_last [] x = refl
get_last (y ∷ xs) x = get_last xs x

pub get_range : (a n i : ℕ) → i < n → slice_get (range_with_len a n) i ≡ Some (a + i)
get_range a zero i h = absurd (omega (arith, h))
get_range a (suc n) zero h = let e : a ≡ a + 0 = omega arith in ap Some e
get_range a (suc n) (suc i) h = let e : a + 1 + i ≡ a + suc i = omega arith in get_range (a + 1) n i (omega (arith, h)) ∙ ap Some e

pub take_first : {A : Type 0} (n : ℕ) (x : A) (xs : List A) → take (1 + n) (x ∷ xs) ≡ x ∷ take n xs
take_first n x xs = let e : 1 + n ≡ suc n = omega arith in rw e refl

pub reverse_take : {A : Type 0} (xs : List A) (n : ℕ) → reverse (take n xs) ≡ drop (length xs - n) (reverse xs)
reverse_take xs n =
    sym (ap (drop (length xs - n)) (ap reverse (sym (take-append-drop n xs)) ∙ reverse-append (take n xs) (drop n xs))
    ∙ drop_at (reverse (drop n xs)) (reverse (take n xs)) (length xs - n) (length-reverse (drop n xs) ∙ length-drop n xs))

-- ---- orders

cmp_parts : (lt eq : Bool) → (eq ≡ true → lt ≡ false) → is_eq (cond lt Less (cond eq Equal Greater)) ≡ eq
cmp_parts true true h = absurd (let no : true ≡ false = h refl in cc)
cmp_parts true false h = refl
cmp_parts false true h = refl
cmp_parts false false h = refl

pub is_eq_at : (a b : ℕ) → is_eq (nat_cmp a b) ≡ eqb a b
is_eq_at a b = cmp_parts (ltb a b) (eqb a b) (λ e. grind (arith, e))
