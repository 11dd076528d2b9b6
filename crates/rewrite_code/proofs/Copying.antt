-- Places that are copies no more.
use Rattle.std.proofs.Common.{◌≡◌, ℕ, zero, suc, ◌+◌, ◌<◌, ◌≤◌, List, [], ◌∷◌, ◌++◌, length, map, reverse, Bool, refl, sym, ap, ap₂, ◌∙◌, arith, append-nil}
use Rattle.std.specs.Prelude.{get_or, slice_set, take, drop}
use Rattle.std.proofs.lemmas.List.{take_all, drop_all, length-map, map-append, reverse-append}
use Rattle.rewrite_bodies.specs.calls.Slots.{Place, uncopied, without}
use Rattle.rewrite_code.specs.declared.place.OperandPlace.{OperandPlace}
use Rattle.rewrite_code.specs.calls.Places.{place, from_top}

-- one more at the front is
one_more : (f : Place → Place) (i : ℕ) (e : OperandPlace) (now : List OperandPlace) (ps : List Place) (d : OperandPlace) → i < length ps → map place now ≡ take i (map f ps) ++ drop i ps → place e ≡ f (place (get_or now i d)) →
    map place (slice_set now i e) ≡ take (suc i) (map f ps) ++ drop (suc i) ps
one_more f i e now [] d lt s w = absurd (omega (arith, lt))
one_more f zero e [] (p ∷ ps) d lt s w = absurd (cc)
one_more f (suc i) e [] (p ∷ ps) d lt s w = absurd (cc)
one_more f zero e (x ∷ xs) (p ∷ ps) d lt s w =
    let first : place x ≡ p = cc in
    let rest : map place xs ≡ ps = cc in
    ap₂ (λ (a : Place) (z : List Place). a ∷ z) (w ∙ ap f first) rest
one_more f (suc i) e (x ∷ xs) (p ∷ ps) d lt s w =
    let first : place x ≡ f p = cc in
    let rest : map place xs ≡ take i (map f ps) ++ drop i ps = cc in
    ap₂ (λ (a : Place) (z : List Place). a ∷ z) first (one_more f i e xs ps d (omega (arith, lt)) rest w)

pub uncopied_more : (f : Place → Place) (ps : List Place) (now : List OperandPlace) (i : ℕ) (e d : OperandPlace) → i < length ps → map place now ≡ take i (map f ps) ++ drop i ps → place e ≡ f (place (get_or now i d)) →
    map place (slice_set now i e) ≡ take (i + 1) (map f ps) ++ drop (i + 1) ps
uncopied_more f ps now i e d lt s w =
    let next : suc i ≡ i + 1 = omega arith in
    one_more f i e now ps d lt s w ∙ ap (λ k. take k (map f ps) ++ drop k ps) next

-- all are
pub all_uncopied : (f : Place → Place) (i : ℕ) (ps : List Place) → i ≡ length ps → take i (map f ps) ++ drop i ps ≡ map f ps
all_uncopied f i ps e =
    let few : length (map f ps) ≤ i = omega (arith, length-map ps f, e) in
    let none : length ps ≤ i = omega (arith, e) in
    ap₂ (λ (a b : List Place). a ++ b) (take_all i (map f ps) few) (drop_all i ps none) ∙ append-nil (map f ps)

map-reverse : (f : Place → Place) (xs : List Place) → map f (reverse xs) ≡ reverse (map f xs)
map-reverse f [] = refl
map-reverse f (x ∷ xs) =
    ap (map f) (reverse-append (x ∷ []) xs) ∙ map-append f (reverse xs) (x ∷ []) ∙ ap (λ z. z ++ f x ∷ []) (map-reverse f xs) ∙ sym (reverse-append (f x ∷ []) (map f xs))

pub uncopied_places : (these : ℕ → Bool) (xs ys : List OperandPlace) → map place ys ≡ map (uncopied these) (map place xs) → from_top ys ≡ without these (from_top xs)
uncopied_places these xs ys e = ap reverse e ∙ sym (map-reverse (uncopied these) (map place xs))
