-- A map of places stays one where a value is added behind the others.
use Rattle.std.proofs.Common.{◌≡◌, ℕ, zero, suc, ◌+◌, ◌<◌, Bool, true, false, cond, eqb, List, [], ◌∷◌, ◌++◌, length, take, get_or, Option, Some, None, refl, sym, ap, subst, ◌∙◌, inl, inr, arith, length-append}
use Rattle.std.specs.Prelude.{slice_get, option_and_then, IfSome, find}
use Rattle.std.specs.Option.{option_or, is_some}
use Rattle.std.specs.Ordering.{nat_cmp, is_eq}
use Rattle.std.proofs.lemmas.Bool.{eqb-true}
use Rattle.std.proofs.lemmas.Option.{slice_get_cases}
use Rattle.std.proofs.lemmas.List.{length-take}
use Rattle.std.proofs.lemmas.List.Folds.{find-append}
use Rattle.dwarf_abbrev.specs.calls.Places.{IsPlaced}
use Rattle.pm_text.proofs.Lists.{get_front, get_last, is_eq_at}

-- ---- keys

-- ---- lists

-- ---- places

pub none_placed : {T : Type 0} (code : T → ℕ) (place : ℕ → Option ℕ) → ((c : ℕ) → place c ≡ None) → IsPlaced code [] place
none_placed code place h c = rw (h c) (refl, tt)

-- the code c where another value is added
grown : {T : Type 0} (code : T → ℕ) (xs : List T) (x : T) (c : ℕ) (o : Option ℕ) → option_and_then (slice_get xs) o ≡ find (λ y. eqb (code y) c) xs → IfSome o (λ i. i < length xs)
    → (o ≡ None → eqb (code x) c ≡ false) → (option_and_then (slice_get (xs ++ x ∷ [])) o ≡ find (λ y. eqb (code y) c) (xs ++ x ∷ [])) × IfSome o (λ i. i < length (xs ++ x ∷ []))
grown code xs x c None e inside other =
    let differs : eqb (code x) c ≡ false = other refl in
    let last : find (λ y. eqb (code y) c) (x ∷ []) ≡ None = rw differs refl in
    let all = find-append (λ y. eqb (code y) c) xs (x ∷ []) ∙ ap (λ o. option_or o (find (λ y. eqb (code y) c) (x ∷ []))) (sym e) ∙ last in
    (sym all, tt)
grown code xs x c (Some i) e inside other = elim (slice_get_cases xs i).1 [
  | inl s ↦
      let here : Some s.0 ≡ find (λ y. eqb (code y) c) xs = sym s.2 ∙ e in
      let all = find-append (λ y. eqb (code y) c) xs (x ∷ []) ∙ ap (λ o. option_or o (find (λ y. eqb (code y) c) (x ∷ []))) (sym here) in
      (get_front xs (x ∷ []) i s.0 s.2 ∙ sym all, omega (arith, inside, length-append xs (x ∷ [])))
  | inr s ↦ absurd (omega (arith, inside, s.0))
]

by_tie : (k c : ℕ) (place : ℕ → Option ℕ) (known : ℕ) → place k ≡ Some known → place c ≡ None → (b : Bool) → eqb k c ≡ b → b ≡ false
by_tie k c place known there e true tie = absurd (let no : Some known ≡ None = sym there ∙ ap place (eqb-true k c tie) ∙ e in cc)
by_tie k c place known there e false tie = refl

-- Its code is there already.
pub known_placed : {T : Type 0} (code : T → ℕ) (xs : List T) (x : T) (place : ℕ → Option ℕ) (known : ℕ) → IsPlaced code xs place → place (code x) ≡ Some known → IsPlaced code (xs ++ x ∷ []) place
known_placed code xs x place known p there c = grown code xs x c (place c) (p c).0 (p c).1 (λ e. by_tie (code x) c place known there e (eqb (code x) c) refl)

by_code : {T : Type 0} (code : T → ℕ) (xs : List T) (x : T) (place after : ℕ → Option ℕ) → IsPlaced code xs place → place (code x) ≡ None
    → ((q : ℕ) → after q ≡ cond (eqb (code x) q) (Some (length xs)) (place q)) → (c : ℕ) (b : Bool) → eqb (code x) c ≡ b
    → (option_and_then (slice_get (xs ++ x ∷ [])) (after c) ≡ find (λ y. eqb (code y) c) (xs ++ x ∷ [])) × IfSome (after c) (λ i. i < length (xs ++ x ∷ []))
by_code code xs x place after p new update c true tie =
    let is : after c ≡ Some (length xs) = update c ∙ rw tie refl in
    let absent : place c ≡ None = ap place (sym (eqb-true (code x) c tie)) ∙ new in
    let nothing : None ≡ find (λ y. eqb (code y) c) xs = rw absent at (p c).0 in
    let last : find (λ y. eqb (code y) c) (x ∷ []) ≡ Some x = rw tie refl in
    let all = find-append (λ y. eqb (code y) c) xs (x ∷ []) ∙ ap (λ o. option_or o (find (λ y. eqb (code y) c) (x ∷ []))) (sym nothing) ∙ last in
    rw is (get_last xs x ∙ sym all, omega (arith, length-append xs (x ∷ [])))
by_code code xs x place after p new update c false tie =
    let is : after c ≡ place c = update c ∙ rw tie refl in
    rw is (grown code xs x c (place c) (p c).0 (p c).1 (λ e. tie))

-- Its code is new.
pub new_placed : {T : Type 0} (code : T → ℕ) (xs : List T) (x : T) (place after : ℕ → Option ℕ) → IsPlaced code xs place → place (code x) ≡ None
    → ((q : ℕ) → after q ≡ cond (eqb (code x) q) (Some (length xs)) (place q)) → IsPlaced code (xs ++ x ∷ []) after
new_placed code xs x place after p new update c = by_code code xs x place after p new update c (eqb (code x) c) refl

-- ---- the same of the first values of a list

pub one_more : {T : Type 0} (items : List T) (i : ℕ) (x : T) → i < length items → x ≡ get_or items i x → take (i + 1) items ≡ take i items ++ x ∷ []
one_more [] i x lt is = absurd (omega (arith, lt))
one_more (y ∷ ys) zero x lt is = ap (λ z. z ∷ []) (sym is)
one_more (y ∷ ys) (suc i) x lt is = let e : suc i + 1 ≡ suc (i + 1) = omega arith in rw e (ap (λ zs. y ∷ zs) (one_more ys i x (omega (arith, lt)) is))

some_there : (o : Option ℕ) → is_some o ≡ true → (known : ℕ) × (o ≡ Some known)
some_there (Some known) e = (known, refl)
some_there None e = absurd cc

none_there : (o : Option ℕ) → is_some o ≡ false → o ≡ None
none_there (Some known) e = absurd cc
none_there None e = refl

pub known_next : {T : Type 0} (code : T → ℕ) (items : List T) (i : ℕ) (x : T) (k : ℕ) (place : ℕ → Option ℕ) → i < length items → x ≡ get_or items i x → k ≡ code x
    → IsPlaced code (take i items) place → is_some (place k) ≡ true → IsPlaced code (take (i + 1) items) place
known_next code items i x k place lt is coded p there =
    let s = some_there (place k) there in
    let known : place (code x) ≡ Some s.0 = ap place (sym coded) ∙ s.1 in
    subst (λ (xs : List _). IsPlaced code xs place) (sym (one_more items i x lt is)) (known_placed code (take i items) x place s.0 p known)

pub new_next : {T : Type 0} (code : T → ℕ) (items : List T) (i : ℕ) (x : T) (k : ℕ) (place after : ℕ → Option ℕ) → i < length items → x ≡ get_or items i x → k ≡ code x
    → IsPlaced code (take i items) place → is_some (place k) ≡ false → ((q : ℕ) → after q ≡ cond (is_eq (nat_cmp k q)) (Some i) (place q)) → IsPlaced code (take (i + 1) items) after
new_next code items i x k place after lt is coded p absent update =
    let new : place (code x) ≡ None = ap place (sym coded) ∙ none_there (place k) absent in
    let size : i ≡ length (take i items) = omega (arith, lt, length-take i items) in
    let updated : (q : ℕ) → after q ≡ cond (eqb (code x) q) (Some (length (take i items))) (place q) = λ q.
    update q ∙ ap (λ (b : Bool). cond b (Some i) (place q)) (is_eq_at k q ∙ ap (λ (n : ℕ). eqb n q) coded) ∙ ap (λ (n : ℕ). cond (eqb (code x) q) (Some n) (place q)) size in
    subst (λ (xs : List _). IsPlaced code xs after) (sym (one_more items i x lt is)) (new_placed code (take i items) x place after p new updated)
