-- Elements whose numbers fall: where those past a number end, and what is left of two lists that are merged.
use Rattle.std.proofs.Common.{◌≡◌, ℕ, zero, suc, ◌+◌, ◌-◌, ◌<◌, ◌≤◌, true, false, ltb, List, [], ◌∷◌, ◌++◌, length, take, drop, get_or, append_assoc, sym, ap, ◌∙◌, arith, add-one, drop-cons}
use Rattle.std.specs.List.Sorted.{IsPartitionedBy, IsPartitionPoint}
use Rattle.std.proofs.lemmas.List.{take_rest}

abbrev pub IsMost : {A : Type 0} → (A → ℕ) → ℕ → List A → Type 0
IsMost key most [] = Unit {0}
IsMost key most (x ∷ xs) = key x ≤ most

-- No number is past the one in front of it.
abbrev pub Fall : {A : Type 0} → (A → ℕ) → List A → Type 0
Fall key [] = Unit {0}
Fall key (x ∷ xs) = IsMost key (key x) xs × Fall key xs

below_first : {A : Type 0} (key : A → ℕ) (x : A) (xs : List A) (j : ℕ) (d : A) → Fall key (x ∷ xs) → j < length xs → key (get_or xs j d) ≤ key x
below_first key x [] j d e h = absurd (omega (arith, h))
below_first key x (y ∷ xs) zero d e h = e.0
below_first key x (y ∷ xs) (suc j) d e h =
    let later : key (get_or xs j d) ≤ key y = below_first key y xs j d e.1 (omega (arith, h)) in
    let first : key y ≤ key x = e.0 in
    omega (arith, later, first)

fall_all : {A : Type 0} (key : A → ℕ) (xs : List A) → Fall key xs → (i j : ℕ) (d : A) → i ≤ j → j < length xs → key (get_or xs j d) ≤ key (get_or xs i d)
fall_all key [] e i j d up h = absurd (omega (arith, h))
fall_all key (x ∷ xs) e zero zero d up h = omega arith
fall_all key (x ∷ xs) e zero (suc j) d up h = below_first key x xs j d e (omega (arith, h))
fall_all key (x ∷ xs) e (suc i) zero d up h = absurd (omega (arith, up))
fall_all key (x ∷ xs) e (suc i) (suc j) d up h = fall_all key xs e.1 i j d (omega (arith, up)) (omega (arith, h))

pub is_partitioned : {A : Type 0} (key : A → ℕ) (a : ℕ) (xs : List A) → Fall key xs → IsPartitionedBy (λ (x : A). ltb a (key x)) xs
is_partitioned key a xs e i j d up h past =
    let le : key (get_or xs j d) ≤ key (get_or xs i d) = fall_all key xs e i j d up h in
    let over : a < key (get_or xs j d) = grind (arith, past) in
    grind (arith, le, over)

-- where the elements past the number end
abbrev pub IsPassed : {A : Type 0} → (A → ℕ) → ℕ → List A → ℕ → Type 0
IsPassed key a xs i = IsPartitionPoint (λ x. ltb a (key x) ≡ true) (λ x. ltb a (key x) ≡ false) xs i

pub passed_behind : {A : Type 0} (key : A → ℕ) (a : ℕ) (x : A) (xs : List A) (i : ℕ) → IsPassed key a (x ∷ xs) (suc i) → IsPassed key a xs i
passed_behind key a x xs i p = ((λ k d low high. p.0 (suc k) d (omega arith) (omega (arith, high))), (λ k d low high. p.1 (suc k) d (omega (arith, low)) (omega (arith, high))))

-- ---- one more element of a merge

pub element_left : {A : Type 0} (xs : List A) (i : ℕ) (d : A) → i < length xs → drop i xs ≡ get_or xs i d ∷ drop (i + 1) xs
element_left xs i d lt = drop-cons xs i d lt ∙ ap (λ (n : ℕ). get_or xs i d ∷ drop n xs) (sym (add-one i))

pub merge_more : {A : Type 0} (out after before behind total : List A) (x : A) → before ≡ x ∷ behind → after ≡ out ++ x ∷ [] → out ++ before ≡ total → after ++ behind ≡ total
merge_more {A = A} out after before behind total x is grown so_far =
    ap (λ (l : List A). l ++ behind) grown ∙ append_assoc out (x ∷ []) behind ∙ ap (λ (l : List A). out ++ l) (sym is) ∙ so_far

-- ---- the end of a merge

pub merge_done : {A : Type 0} (out left right rest all first last : List A) (i j : ℕ) → out ++ rest ≡ all → rest ≡ drop i left ++ drop j right
    → first ≡ out ++ take (length left - i) (drop i left) → last ≡ first ++ take (length right - j) (drop j right) → last ≡ all
merge_done out left right rest all first last i j so_far end one two =
    two ∙ ap (λ l. first ++ l) (take_rest right j)
    ∙ ap (λ l. l ++ drop j right) (one ∙ ap (λ l. out ++ l) (take_rest left i))
    ∙ append_assoc out (drop i left) (drop j right) ∙ ap (λ l. out ++ l) (sym end) ∙ so_far
