-- Lists in parts, seen through a function.
use Rattle.std.proofs.Common.{◌≡◌, Bool, true, false, cond, List, [], ◌∷◌, map, refl, sym, ap, ◌∙◌}
use Rattle.std.proofs.lemmas.Simd.{map-map}
use Rattle.std.specs.List.{slice_split, onto_first}

first_now : {A B : Type 0} (now : A → B) (x : A) (parts : List (List A)) → map (map now) (onto_first x parts) ≡ onto_first (now x) (map (map now) parts)
first_now now x [] = refl
first_now now x (part ∷ parts) = refl

-- the parts of a list that is seen through a function
pub parts_now : {A B : Type 0} (now : A → B) (p : B → Bool) (xs : List A) → map (map now) (slice_split (λ x. p (now x)) xs) ≡ slice_split p (map now xs)
parts_now now p [] = refl
parts_now {A} {B} now p (x ∷ xs) = cases (p (now x)) (slice_split (λ y. p (now y)) xs) (slice_split p (map now xs)) (parts_now now p xs) where
  cases : (b : Bool) (parts : List (List A)) (shown : List (List B)) → map (map now) parts ≡ shown → map (map now) (cond b ([] ∷ parts) (onto_first x parts)) ≡ cond b ([] ∷ shown) (onto_first (now x) shown)
  cases true parts shown e = ap (λ (ps : List (List B)). [] ∷ ps) e
  cases false parts shown e = first_now now x parts ∙ ap (onto_first (now x)) e

-- the same of parts that were gathered
pub parts_seen : {X A B : Type 0} (seen : X → List A) (now : A → B) (p : B → Bool) (items : List X) (xs : List A) → map seen items ≡ slice_split (λ x. p (now x)) xs → map (λ i. map now (seen i)) items ≡ slice_split p (map now xs)
parts_seen seen now p items xs e = sym (map-map (map now) seen items) ∙ ap (map (map now)) e ∙ parts_now now p xs
