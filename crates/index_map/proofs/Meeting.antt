-- Types are met from the end of the code on.
use Rattle.std.proofs.Common.{◌≡◌, ◌≢◌, ℕ, suc, ◌-◌, ◌<◌, ◌≤◌, Bool, true, false, if◌then◌else◌, List, [], ◌∷◌, ◌++◌, length, flat_map, get_or, set, drop, Option, Some, None, refl, sym, ap, subst, ◌∙◌, arith, append_assoc}
use Rattle.std.proofs.Math.Seq.{drop-cons}
use Rattle.std.proofs.lemmas.List.{reverse-append, length-reverse, length-set, get_or-set_same, get_or-set_other}
use Rattle.std.proofs.lemmas.Bool.Decides.{nat_tests}
use Rattle.std.specs.Prelude.{is_some, ◌==◌}
use Rattle.rewrite_bodies.specs.Numbering.{is_in, distinct}
use Rattle.index_map.specs.inner.Used.{behind, HasMet}

-- a number is in a list where some elements stand behind it
pub is_in_behind : (t : ℕ) (xs : List ℕ) → is_in t xs ≡ is_some (behind t xs)
is_in_behind t [] = refl
is_in_behind t (u ∷ us) = by (t == u) (is_in_behind t us)
  where
    by : (q : Bool) → is_in t us ≡ is_some (behind t us) → (if q then true else is_in t us) ≡ is_some (if q then Some (length us) else behind t us)
    by true e = refl
    by false e = e

-- a type that was not met
pub met_new : (us met : List ℕ) (places : List (Option ℕ)) (t : ℕ) → HasMet us met places → t < length places → get_or places t None ≡ None → HasMet (t ∷ us) (met ++ t ∷ []) (set places t (Some (length met)))
met_new us met places t h lt e = record {
  met_is = reverse-append met (t ∷ []) ∙ ap (λ l. t ∷ l) h.met_is ∙ sym more;
  places_are = λ s within. by s (s == t) refl within;
}
  where
    more : distinct (t ∷ us) ≡ t ∷ distinct us
    more = ap (λ q. if q then distinct us else t ∷ distinct us) (is_in_behind t (distinct us) ∙ ap is_some (sym (h.places_are t lt) ∙ e))

    count : length (distinct us) ≡ length met
    count = ap length (sym h.met_is) ∙ length-reverse met

    by : (s : ℕ) (q : Bool) → (s == t) ≡ q → s < length (set places t (Some (length met))) → get_or (set places t (Some (length met))) s None ≡ behind s (distinct (t ∷ us))
    by s true z within =
        let same : s ≡ t = grind (arith, nat_tests) in
        ap (λ j. get_or (set places t (Some (length met))) j None) same ∙ get_or-set_same places t (Some (length met)) None lt
        ∙ sym (ap (behind s) more ∙ ap (λ q. if q then Some (length (distinct us)) else behind s (distinct us)) z ∙ ap Some count)
    by s false z within =
        let differ : s ≢ t = grind (arith, nat_tests) in
        get_or-set_other places t s (Some (length met)) None differ ∙ h.places_are s (subst (λ n. s < n) (length-set places t (Some (length met))) within)
        ∙ sym (ap (behind s) more ∙ ap (λ q. if q then Some (length (distinct us)) else behind s (distinct us)) z)

-- by the list that it was pushed to
pub met_pushed : (us met new shown : List ℕ) (places : List (Option ℕ)) (t : ℕ) → new ≡ met ++ t ∷ [] → shown ≡ met → HasMet us met places → t < length places → get_or places t None ≡ None → HasMet (t ∷ us) new (set places t (Some (length shown)))
met_pushed us met new shown places t n s h lt e =
    subst (λ l. HasMet (t ∷ us) l (set places t (Some (length shown)))) (sym n) (subst (λ l. HasMet (t ∷ us) (met ++ t ∷ []) (set places t (Some (length l)))) (sym s) (met_new us met places t h lt e))

-- a type that was met
pub met_old : (us met : List ℕ) (places : List (Option ℕ)) (t k : ℕ) → HasMet us met places → t < length places → get_or places t None ≡ Some k → HasMet (t ∷ us) met places
met_old us met places t k h lt e = record {
  met_is = h.met_is ∙ sym same;
  places_are = λ s within. h.places_are s within ∙ ap (behind s) (sym same);
}
  where
    same : distinct (t ∷ us) ≡ distinct us
    same = ap (λ q. if q then distinct us else t ∷ distinct us) (is_in_behind t (distinct us) ∙ ap is_some (sym (h.places_are t lt) ∙ e))

-- what an element more in front gives
pub one_before : {A : Type 0} (f : A → List ℕ) (xs : List A) (n : ℕ) (d : A) → 0 < n → n ≤ length xs → flat_map f (drop (n - 1) xs) ≡ f (get_or xs (n - 1) d) ++ flat_map f (drop n xs)
one_before f xs n d pos le =
    let lt : n - 1 < length xs = omega arith in
    let k : suc (n - 1) ≡ n = omega arith in
    ap (flat_map f) (drop-cons xs (n - 1) d lt ∙ ap (λ j. get_or xs (n - 1) d ∷ drop j xs) k)

-- one element more is read
pub read_before : {A : Type 0} (f : A → List ℕ) (xs : List A) (n : ℕ) (d : A) (us met : List ℕ) (places : List (Option ℕ)) → 0 < n → n ≤ length xs → HasMet (f (get_or xs (n - 1) d) ++ (flat_map f (drop n xs) ++ us)) met places → HasMet (flat_map f (drop (n - 1) xs) ++ us) met places
read_before f xs n d us met places pos le h =
    subst (λ l. HasMet l met places) (sym (append_assoc (f (get_or xs (n - 1) d)) (flat_map f (drop n xs)) us) ∙ ap (λ l. l ++ us) (sym (one_before f xs n d pos le))) h
