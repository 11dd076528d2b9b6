-- Lists that are written one element after another.
use Rattle.std.proofs.Common.{◌≡◌, ℕ, ◌+◌, ◌<◌, List, [], ◌∷◌, ◌++◌, length, take, drop, get_or, refl, sym, ap, ◌∙◌, append_assoc, inl, inr, subst, arith}
use Rattle.std.specs.Prelude.{nat_lt, true}
use Rattle.std.specs.List.{flat_map, list_all}
use Rattle.std.specs.Str.{IsUtf8, IsAscii}
use Rattle.std.proofs.lemmas.Bool.{ltb-true, cases_lt}
use Rattle.std.proofs.lemmas.List.{get_or_past}
use Rattle.std.proofs.lemmas.List.Sums.{AllPass-from_list_all}
use Rattle.std.proofs.lemmas.Str.{IsUtf8-from_ascii}
use Rattle.std.proofs.lemmas.List.{take_more, flat_map_more, append-nil, take-append-drop}
use Rattle.std.proofs.lemmas.List.Concat.{flat_map-append}

-- the element at i was written behind those before it
pub one_more : {X : Type 0} (f : X → List ℕ) (xs : List X) (i : ℕ) (x : X) (start before after : List ℕ) → i < length xs → x ≡ get_or xs i x → before ≡ start ++ flat_map f (take i xs) → after ≡ before ++ f x → after ≡ start ++ flat_map f (take (i + 1) xs)
one_more f xs i x start before after inside is so_far more =
    more ∙ ap (λ (bs : List ℕ). bs ++ f x) so_far ∙ flat_map_more f start (take i xs) x
    ∙ ap (λ (ys : List _). start ++ flat_map f ys) (ap (λ (y : _). take i xs ++ y ∷ []) is ∙ sym (take_more xs i x inside))

-- a list of one element
pub flat_map-one : {X : Type 0} (f : X → List ℕ) (x : X) → flat_map f (x ∷ []) ≡ f x
flat_map-one f x = append-nil (f x)

-- what is written up to an element, the element, and what comes behind it
pub split_at : {X : Type 0} (f : X → List ℕ) (xs : List X) (i : ℕ) (x : X) (start : List ℕ) → i < length xs → x ≡ get_or xs i x → start ++ flat_map f xs ≡ ((start ++ flat_map f (take i xs)) ++ f x) ++ flat_map f (drop (i + 1) xs)
split_at f xs i x start inside is =
    let front = one_more f xs i x start (start ++ flat_map f (take i xs)) ((start ++ flat_map f (take i xs)) ++ f x) inside is refl refl in
    sym
    (ap (λ (bs : List ℕ). bs ++ flat_map f (drop (i + 1) xs)) front ∙ append_assoc start (flat_map f (take (i + 1) xs)) (flat_map f (drop (i + 1) xs))
    ∙ ap (λ (bs : List ℕ). start ++ bs) (sym (flat_map-append f (take (i + 1) xs) (drop (i + 1) xs)) ∙ ap (λ (ys : List _). flat_map f ys) (take-append-drop (i + 1) xs)))

-- bytes below 128 are a text
pub ascii_text : (bs : List ℕ) → list_all (λ b. nat_lt b 128) bs ≡ true → IsUtf8 bs
ascii_text bs small = IsUtf8-from_ascii bs ascii where
  ascii : IsAscii bs
  ascii i = elim (cases_lt i (length bs)) [
    | inl inside ↦ ltb-true (get_or bs i 0) 128 (AllPass-from_list_all (λ (b : ℕ). nat_lt b 128) bs small i 0 inside)
    | inr past ↦ subst (λ (n : ℕ). n < 128) (sym (get_or_past bs i 0 past)) (omega arith)
  ]
