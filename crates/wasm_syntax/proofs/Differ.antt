-- Lists that differ at an index.
use Rattle.std.proofs.Common.{◌≡◌, ℕ, ◌<◌, List, [], ◌∷◌, map, length, get_or, refl, sym, ap, ◌∙◌}
use Rattle.std.proofs.lemmas.List.{get_or-map}

pub differ : {A B : Type 0} (f : A → B) (xs ys : List A) (i : ℕ) (x y : A) → i < length xs → i < length ys → x ≡ get_or xs i x → y ≡ get_or ys i y → (f x ≡ f y → ⊥) → map f xs ≡ map f ys → ⊥
differ f xs ys i x y lx ly ex ey n e =
    n (ap f ex ∙ sym (get_or-map f xs i x (f x) lx) ∙ ap (λ z. get_or z i (f x)) e ∙ get_or-map f ys i y (f x) ly ∙ ap f (sym ey))

-- nothing is left out
pub map_same : {A : Type 0} (xs : List A) → map (λ x. x) xs ≡ xs
map_same [] = refl
map_same (x ∷ xs) = ap (λ ys. x ∷ ys) (map_same xs)
