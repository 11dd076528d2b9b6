-- The functions of element segments, and those of them that have wrappers.
use Rattle.std.proofs.Common.{◌≡◌, ℕ, zero, suc, ◌+◌, ◌<◌, ◌≤◌, ◌==◌, List, [], ◌∷◌, ◌++◌, length, map, take, drop, replicate, slice_get, Option, Some, None, Bool, true, false, nat_lt, if◌then◌else◌, refl, sym, ap, ◌∙◌, subst, arith, append_assoc, true≢false}
use Rattle.std.specs.Prelude.{flat_map, fold}
use Rattle.std.specs.List.{AllByRecursion}
use Rattle.std.proofs.lemmas.Bool.{eqb-true, eq-eqb}
use Rattle.wasm_syntax.specs.declared.parts.ElementSeg.{ElementSeg}
use Rattle.wasm_syntax.specs.declared.module.ModuleParts.{ModuleParts as Module}
use Rattle.wasm_syntax.specs.Run.{table_min, over, element_at, start_table}
use Rattle.wasm_syntax.specs.declared.place.Place.TheVariants.{ElementAt}
use Rattle.wasm_syntax.specs.Module.{function_types}
use Rattle.wasm_syntax.specs.Valid.{Valid, AtIndex, ElementFine}
use Rattle.wasm_laws.proofs.Lists.{all_of, all_append, at_of}
use Rattle.rewrite_bodies.specs.calls.Guards.{first_table}
use Rattle.rewrite_bodies.specs.Numbering.{import_count, is_in, distinct, place_in, element_functions, defines, table_functions}

-- ---- the functions of a table

-- a number of a list stands among those that count once
pub in_distinct : (t : ℕ) (xs : List ℕ) → is_in t xs ≡ true → is_in t (distinct xs) ≡ true
in_distinct t [] e = e
in_distinct t (x ∷ xs) e = by (is_in x (distinct xs)) (t == x) refl refl e (in_distinct t xs)
  where
    by : (q r : Bool) → is_in x (distinct xs) ≡ q → (t == x) ≡ r → (if r then true else is_in t xs) ≡ true → (is_in t xs ≡ true → is_in t (distinct xs) ≡ true) → is_in t (if q then distinct xs else x ∷ distinct xs) ≡ true
    by true true d k e ih = let same : t ≡ x = eqb-true t x k in subst (λ n. is_in n (distinct xs) ≡ true) (sym same) d
    by true false d k e ih = ih e
    by false true d k e ih = ap (λ b. if b then true else is_in t (distinct xs)) k
    by false false d k e ih = ap (λ b. if b then true else is_in t (distinct xs)) k ∙ ih e

pub place_inside : (t : ℕ) (xs : List ℕ) → is_in t xs ≡ true → place_in t xs < length xs
place_inside t [] e = absurd (cc)
place_inside t (x ∷ xs) e = by (t == x) e (place_inside t xs)
  where
    by : (q : Bool) → (if q then true else is_in t xs) ≡ true → (is_in t xs ≡ true → place_in t xs < length xs) → (if q then 0 else suc (place_in t xs)) < suc (length xs)
    by true e ih = omega arith
    by false e ih = let r = ih e in omega (arith, r)

pub defines_both : (m : Module) (xs ys : List ℕ) → flat_map (defines m) (xs ++ ys) ≡ flat_map (defines m) xs ++ flat_map (defines m) ys
defines_both m [] ys = refl
defines_both m (x ∷ xs) ys = ap (λ z. defines m x ++ z) (defines_both m xs ys) ∙ sym (append_assoc (defines m x) (flat_map (defines m) xs) (flat_map (defines m) ys))

in_defines : (m : Module) (f : ℕ) (xs : List ℕ) → nat_lt f (import_count m) ≡ false → is_in f xs ≡ true → is_in f (flat_map (defines m) xs) ≡ true
in_defines m f [] low e = e
in_defines m f (x ∷ xs) low e = by (f == x) (nat_lt x (import_count m)) refl refl e (in_defines m f xs low)
  where
    by : (q r : Bool) → (f == x) ≡ q → nat_lt x (import_count m) ≡ r → (if q then true else is_in f xs) ≡ true → (is_in f xs ≡ true → is_in f (flat_map (defines m) xs) ≡ true) → is_in f ((if r then [] else x ∷ []) ++ flat_map (defines m) xs) ≡ true
    by true true k z e ih = absurd (let same : f ≡ x = eqb-true f x k in let no : nat_lt f (import_count m) ≡ true = subst (λ n. nat_lt n (import_count m) ≡ true) (sym same) z in true≢false (sym no ∙ low))
    by true false k z e ih = ap (λ b. if b then true else is_in f (flat_map (defines m) xs)) k
    by false true k z e ih = ih e
    by false false k z e ih = ap (λ b. if b then true else is_in f (flat_map (defines m) xs)) k ∙ ih e

-- a function of a segment that the module defines has its place among those of the table
pub table_has : (m : Module) (f : ℕ) → nat_lt f (import_count m) ≡ false → is_in f (element_functions m) ≡ true → is_in f (table_functions m) ≡ true
table_has m f low e = in_distinct f (flat_map (defines m) (element_functions m)) (in_defines m f (element_functions m) low e)

in_left : (f : ℕ) (xs ys : List ℕ) → is_in f xs ≡ true → is_in f (xs ++ ys) ≡ true
in_left f [] ys e = absurd (cc)
in_left f (x ∷ xs) ys e = by (f == x) e (in_left f xs ys)
  where
    by : (q : Bool) → (if q then true else is_in f xs) ≡ true → (is_in f xs ≡ true → is_in f (xs ++ ys) ≡ true) → (if q then true else is_in f (xs ++ ys)) ≡ true
    by true e ih = refl
    by false e ih = ih e

in_right : (f : ℕ) (xs ys : List ℕ) → is_in f ys ≡ true → is_in f (xs ++ ys) ≡ true
in_right f [] ys e = e
in_right f (x ∷ xs) ys e = by (f == x) (in_right f xs ys e)
  where
    by : (q : Bool) → is_in f (xs ++ ys) ≡ true → (if q then true else is_in f (xs ++ ys)) ≡ true
    by true h = refl
    by false h = h

-- each is one of its own list
pub all_in : (xs : List ℕ) → AllByRecursion (λ f. is_in f xs ≡ true) xs
all_in xs = within xs [] refl
  where
    itself : (x : ℕ) (ys : List ℕ) → is_in x (x ∷ ys) ≡ true
    itself x ys = ap (λ b. if b then true else is_in x ys) (eq-eqb x x refl)

    within : (ys front : List ℕ) → front ++ ys ≡ xs → AllByRecursion (λ f. is_in f xs ≡ true) ys
    within [] front e = tt
    within (y ∷ ys) front e =
        (subst (λ l. is_in y l ≡ true) e (in_right y front (y ∷ ys) (itself y ys)), within ys (front ++ y ∷ []) (append_assoc front (y ∷ []) ys ∙ e))

pub all_distinct : (P : ℕ → Type 0) (xs : List ℕ) → AllByRecursion P xs → AllByRecursion P (distinct xs)
all_distinct P [] h = tt
all_distinct P (x ∷ xs) h = by (is_in x (distinct xs)) (all_distinct P xs h.1)
  where
    by : (q : Bool) → AllByRecursion P (distinct xs) → AllByRecursion P (if q then distinct xs else x ∷ distinct xs)
    by true k = k
    by false k = (h.0, k)

-- the functions of each segment are functions of the segments
pub listed : (m : Module) → AllByRecursion (λ e. AllByRecursion (λ f. is_in f (element_functions m) ≡ true) e.functions) m.elements
listed m = within m.elements [] refl
  where
    flat_both : (xs ys : List ElementSeg) → flat_map (λ e. e.functions) (xs ++ ys) ≡ flat_map (λ e. e.functions) xs ++ flat_map (λ e. e.functions) ys
    flat_both [] ys = refl
    flat_both (x ∷ xs) ys = ap (λ z. x.functions ++ z) (flat_both xs ys) ∙ sym (append_assoc x.functions (flat_map (λ e. e.functions) xs) (flat_map (λ e. e.functions) ys))

    each_of : (e : ElementSeg) (front back : List ElementSeg) (fs : List ℕ) → AllByRecursion (λ f. is_in f e.functions ≡ true) fs → AllByRecursion (λ f. is_in f (flat_map (λ e. e.functions) (front ++ e ∷ back)) ≡ true) fs
    each_of e front back [] h = tt
    each_of e front back (f ∷ fs) h =
        (subst (λ l. is_in f l ≡ true) (sym (flat_both front (e ∷ back))) (in_right f (flat_map (λ e. e.functions) front) (e.functions ++ flat_map (λ e. e.functions) back) (in_left f e.functions (flat_map (λ e. e.functions) back) h.0)), each_of e front back fs h.1)

    within : (es front : List ElementSeg) → front ++ es ≡ m.elements → AllByRecursion (λ e. AllByRecursion (λ f. is_in f (element_functions m) ≡ true) e.functions) es
    within [] front q = tt
    within (e ∷ es) front q =
        (subst (λ l. AllByRecursion (λ f. is_in f (flat_map (λ e. e.functions) l) ≡ true) e.functions) q (each_of e front es e.functions (all_in e.functions)), within es (front ++ e ∷ []) (append_assoc front (e ∷ []) es ∙ q))

-- ---- the table where an instance starts holds functions of the segments

abbrev Known : List ℕ → Option ℕ → Type 0
Known fs None = Unit {0}
Known fs (Some f) = is_in f fs ≡ true

known_take : (fs : List ℕ) (n : ℕ) (t : List (Option ℕ)) → AllByRecursion (Known fs) t → AllByRecursion (Known fs) (take n t)
known_take fs zero t h = tt
known_take fs (suc n) [] h = tt
known_take fs (suc n) (x ∷ t) h = (h.0, known_take fs n t h.1)

known_drop : (fs : List ℕ) (n : ℕ) (t : List (Option ℕ)) → AllByRecursion (Known fs) t → AllByRecursion (Known fs) (drop n t)
known_drop fs zero t h = h
known_drop fs (suc n) [] h = tt
known_drop fs (suc n) (x ∷ t) h = known_drop fs n t h.1

known_some : (fs gs : List ℕ) → AllByRecursion (λ f. is_in f fs ≡ true) gs → AllByRecursion (Known fs) (map Some gs)
known_some fs [] h = tt
known_some fs (g ∷ gs) h = (h.0, known_some fs gs h.1)

known_none : (fs : List ℕ) (n : ℕ) → AllByRecursion (Known fs) (replicate n None)
known_none fs zero = tt
known_none fs (suc n) = (tt, known_none fs n)

known_fold : (m : Module) (es : List ElementSeg) (t : List (Option ℕ)) → AllByRecursion (Known (element_functions m)) t → AllByRecursion (λ e. AllByRecursion (λ f. is_in f (element_functions m) ≡ true) e.functions) es → AllByRecursion (Known (element_functions m)) (fold (λ table e. over table (element_at m e) (map Some e.functions)) t es)
known_fold m [] t h l = h
known_fold m (e ∷ es) t h l =
    let fs = element_functions m in
    let new = map Some e.functions in
    let at = element_at m e in
    known_fold m es (over t at new)
    (all_append (Known fs) (take at t) (new ++ drop (at + length new) t) (known_take fs at t h) (all_append (Known fs) new (drop (at + length new) t) (known_some fs e.functions l.0) (known_drop fs (at + length new) t h))) l.1

pub first_listed : (m : Module) (i f : ℕ) → slice_get (first_table m) i ≡ Some (Some f) → is_in f (element_functions m) ≡ true
first_listed m i f at =
    let fs = element_functions m in
    at_of (Known fs) (first_table m) i (Some f) (known_take fs (table_min m.tables) (start_table m) (known_fold m m.elements (replicate (table_min m.tables) None) (known_none fs (table_min m.tables)) (listed m))) at

-- ---- the functions are there

all_at : (n : ℕ) (fs : List ℕ) → AtIndex fs (λ _ f. f < n) → AllByRecursion (λ f. f < n) fs
all_at n [] h = tt
all_at n (f ∷ fs) h = (h zero f refl, all_at n fs (λ i g e. h (suc i) g e))

pub functions_below : (m : Module) → Valid m → AllByRecursion (λ f. f < length (function_types m)) (element_functions m)
functions_below m valid = below m.elements (all_of (ElementFine m) m.elements (λ i. valid (ElementAt i)))
  where
    below : (es : List ElementSeg) → AllByRecursion (ElementFine m) es → AllByRecursion (λ f. f < length (function_types m)) (flat_map (λ e. e.functions) es)
    below [] h = tt
    below (e ∷ es) h = all_append (λ f. f < length (function_types m)) e.functions (flat_map (λ e. e.functions) es) (all_at (length (function_types m)) e.functions h.0.2) (below es h.1)

pub listed_below : (m : Module) → Valid m → (f : ℕ) → is_in f (element_functions m) ≡ true → f < length (function_types m)
listed_below m valid f e = by_list (element_functions m) (functions_below m valid) e
  where
    by_test : (g : ℕ) (gs : List ℕ) → g < length (function_types m) → (q : Bool) → (f == g) ≡ q → (if q then true else is_in f gs) ≡ true → (is_in f gs ≡ true → f < length (function_types m)) → f < length (function_types m)
    by_test g gs low true k e ih = subst (λ n. n < length (function_types m)) (sym (eqb-true f g k)) low
    by_test g gs low false k e ih = ih e

    by_list : (fs : List ℕ) → AllByRecursion (λ f. f < length (function_types m)) fs → is_in f fs ≡ true → f < length (function_types m)
    by_list [] h e = absurd (cc)
    by_list (g ∷ gs) h e = by_test g gs h.0 (f == g) refl e (by_list gs h.1)

pub slice_get_none : {A : Type 0} (xs : List A) (i : ℕ) → slice_get xs i ≡ None → length xs ≤ i
slice_get_none [] i e = omega arith
slice_get_none (x ∷ xs) zero e = absurd cc
slice_get_none (x ∷ xs) (suc i) e = omega (arith, slice_get_none xs i e)
