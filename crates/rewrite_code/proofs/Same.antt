-- The places of operands are compared, and landings are looked for.
use Rattle.std.proofs.Common.{◌≡◌, ◌≢◌, ℕ, suc, ◌+◌, ◌-◌, ◌<◌, ◌≤◌, ◌&&◌, take, drop, get_or, slice_get, unwrap_or, List, [], ◌∷◌, length, map, Option, Some, None, option_map, Bool, true, false, if◌then◌else◌, refl, sym, ap, ap₂, ◌∙◌, arith}
use Rattle.std.proofs.lemmas.List.{drop_all}
use Rattle.std.proofs.Math.Seq.{drop-cons}
use Rattle.wasm_syntax.specs.declared.value.ValType.{ValType}
use Rattle.wasm_syntax.specs.declared.instruction.Basic.{Basic}
use Rattle.rewrite_bodies.specs.calls.Slots.{Place, place_type, Landing, less}
use Rattle.rewrite_bodies.specs.calls.Landings.{same_place, same_places, same_landing, number_of, one_kind, carrying, landing_of, landing_behind}
use Rattle.rewrite_code.specs.declared.place.OperandPlace.{OperandPlace}
use Rattle.rewrite_code.specs.calls.Places.{place, from_top}
use Rattle.rewrite_code.specs.declared.landing.Landing.{Landing as Kept}
use Rattle.rewrite_code.specs.calls.KeptLandings.{landing, made_landing}
use Rattle.rewrite_code.proofs.Loads.{length_from_top, discarded, one_more}

and_no : (b : Bool) → (b && false) ≡ false
and_no true = refl
and_no false = refl

different : (es fs : List Place) → length es ≢ length fs → same_places es fs ≡ false
different [] [] n = absurd (n refl)
different [] (f ∷ fs) n = refl
different (e ∷ es) [] n = refl
different (e ∷ es) (f ∷ fs) n = ap (λ b. same_place e f && b) (different es fs (λ z. n (ap suc z))) ∙ and_no (same_place e f)

pub unlike : (a b : List OperandPlace) → length a ≢ length b → false ≡ same_places (from_top a) (from_top b)
unlike a b n = sym (different (from_top a) (from_top b) (λ z. n (sym (length_from_top a) ∙ z ∙ length_from_top b)))

-- one more from the end
last_alike : (a b : List OperandPlace) (n m : ℕ) (d e : OperandPlace) (q t : Bool) {p : Bool} → n ≡ suc m → m < length a → length a ≡ length b → q ≡ same_place (place (get_or a m d)) (place (get_or b m e)) → q ≡ t →
    p ≡ same_places (from_top (take n a)) (from_top (take n b)) → p ≡ (t && same_places (from_top (take m a)) (from_top (take m b)))
last_alike a b n m d e q t next lt as_many test is so =
    so ∙ ap (λ j. same_places (from_top (take j a)) (from_top (take j b))) next
    ∙ ap₂ same_places (one_more a m d lt) (one_more b m e (omega (arith, lt, as_many)))
    ∙ ap (λ z. z && same_places (from_top (take m a)) (from_top (take m b))) (sym test ∙ is)

pub alike_so_far : (a b : List OperandPlace) (n : ℕ) (d e : OperandPlace) (q : Bool) {p : Bool} → 0 < n → n ≤ length a → length a ≡ length b → q ≡ same_place (place (get_or a (n - 1) d)) (place (get_or b (n - 1) e)) → q ≡ true →
    p ≡ same_places (from_top (take n a)) (from_top (take n b)) → p ≡ same_places (from_top (take (n - 1) a)) (from_top (take (n - 1) b))
alike_so_far a b n d e q some low as_many test is so = last_alike a b n (n - 1) d e q true (omega (arith, some)) (omega (arith, some, low)) as_many test is so

pub unlike_here : (a b : List OperandPlace) (n : ℕ) (d e : OperandPlace) (q : Bool) {p : Bool} → 0 < n → n ≤ length a → length a ≡ length b → q ≡ same_place (place (get_or a (n - 1) d)) (place (get_or b (n - 1) e)) → q ≡ false →
    p ≡ same_places (from_top (take n a)) (from_top (take n b)) → false ≡ p
unlike_here a b n d e q some low as_many test is so = sym (last_alike a b n (n - 1) d e q false (omega (arith, some)) (omega (arith, some, low)) as_many test is so)

pub alike_all : (a b : List OperandPlace) (n : ℕ) {p : Bool} → n ≡ 0 → p ≡ same_places (from_top (take n a)) (from_top (take n b)) → true ≡ p
alike_all a b n none so = sym (so ∙ ap (λ j. same_places (from_top (take j a)) (from_top (take j b))) none)

-- ---- the number of a landing

pub none_before : (x : Landing) (xs : List Landing) → number_of x xs ≡ option_map (λ n. 0 + n) (number_of x xs)
none_before x xs = by_number (number_of x xs)
  where
    by_number : (q : Option ℕ) → q ≡ option_map (λ n. 0 + n) q
    by_number None = refl
    by_number (Some n) = let z : n ≡ 0 + n = omega arith in ap Some z

-- by whether the next one is the same
at_next : (x : Landing) (ks : List Kept) (i : ℕ) (k : Kept) (q t : Bool) {p : Option ℕ} → i < length ks → k ≡ get_or ks i k → q ≡ same_landing x (landing k) → q ≡ t → p ≡ option_map (λ n. i + n) (number_of x (map landing (drop i ks))) →
    p ≡ option_map (λ n. i + n) (if t then Some 0 else option_map suc (number_of x (map landing (drop (suc i) ks))))
at_next x ks i k q t lt at test is so =
    let others : Option ℕ = number_of x (map landing (drop (suc i) ks)) in
    so ∙ ap (λ (zs : List Kept). option_map (λ n. i + n) (number_of x (map landing zs))) (drop-cons ks i k lt ∙ ap (λ (z : Kept). z ∷ drop (suc i) ks) (sym at))
    ∙ ap (λ z. option_map (λ n. i + n) (if z then Some 0 else option_map suc others)) (sym test ∙ is)

pub not_here : (x : Landing) (ks : List Kept) (i : ℕ) (k : Kept) (q : Bool) {p : Option ℕ} → i < length ks → k ≡ get_or ks i k → q ≡ same_landing x (landing k) → q ≡ false → p ≡ option_map (λ n. i + n) (number_of x (map landing (drop i ks))) →
    p ≡ option_map (λ n. i + 1 + n) (number_of x (map landing (drop (i + 1) ks)))
not_here x ks i k q lt at test is so =
    let one : suc i ≡ i + 1 = omega arith in
    at_next x ks i k q false lt at test is so ∙ by_number (number_of x (map landing (drop (suc i) ks))) ∙ ap (λ j. option_map (λ n. i + 1 + n) (number_of x (map landing (drop j ks)))) one
  where
    by_number : (o : Option ℕ) → option_map (λ n. i + n) (option_map suc o) ≡ option_map (λ n. i + 1 + n) o
    by_number None = refl
    by_number (Some n) = let z : i + suc n ≡ i + 1 + n = omega arith in ap Some z

pub found_here : (x : Landing) (ks : List Kept) (i : ℕ) (k : Kept) (q : Bool) {p : Option ℕ} → i < length ks → k ≡ get_or ks i k → q ≡ same_landing x (landing k) → q ≡ true → p ≡ option_map (λ n. i + n) (number_of x (map landing (drop i ks))) → Some i ≡ p
found_here x ks i k q lt at test is so = let z : i + 0 ≡ i = omega arith in sym (at_next x ks i k q true lt at test is so ∙ ap Some z)

pub found_nowhere : (x : Landing) (ks : List Kept) (i : ℕ) {p : Option ℕ} → length ks ≤ i → p ≡ option_map (λ n. i + n) (number_of x (map landing (drop i ks))) → None ≡ p
found_nowhere x ks i ge so = sym (so ∙ ap (λ (zs : List Kept). option_map (λ n. i + n) (number_of x (map landing zs))) (drop_all i ks ge))

-- ---- the landing of a guard, and that behind a call

pub made_behind : (p : ℕ) (ops : List OperandPlace) (es : List Place) (m left : ℕ) → from_top ops ≡ es → left ≡ length ops - m → made_landing None (take left ops) 0 p ≡ landing_behind p (less m es)
made_behind p ops es m left e l = ap (landing_behind p) (ap (λ n. from_top (take n ops)) l ∙ discarded ops m ∙ ap (less m) e)

pub made_carrying : (p : ℕ) (i : Basic) (ops : List OperandPlace) (es : List Place) (k : ℕ) (top : OperandPlace) (t : ValType) (left : ℕ) → from_top ops ≡ es → one_kind i ≡ Some k → Some (place top) ≡ slice_get es 0 → t ≡ place_type (place top) → left ≡ length ops - 1 → landing_of p i es ≡ Some (made_landing (Some t) (take left ops) k p)
made_carrying p i ops es k top t left e one is ty l =
    let under : from_top (take left ops) ≡ less 1 es = ap (λ n. from_top (take n ops)) l ∙ discarded ops 1 ∙ ap (less 1) e in
    ap (λ q. carrying p q es) one ∙ by_places es under is
  where
    by_places : (es : List Place) → from_top (take left ops) ≡ less 1 es → Some (place top) ≡ slice_get es 0 → carrying p (Some k) es ≡ Some (made_landing (Some t) (take left ops) k p)
    by_places [] under is = absurd (cc)
    by_places (x ∷ xs) under is =
        let same : x ≡ place top = sym (ap (λ o. unwrap_or o x) is) in
        let types : place_type x ≡ t = ap place_type same ∙ sym ty in
        λ i. Some (record { carried = Some (types i); places = sym under i; kind = k; part = p })
