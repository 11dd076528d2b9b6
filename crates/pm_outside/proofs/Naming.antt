-- The names in a list.
use Rattle.std.proofs.Common.{◌≡◌, ℕ, List, [], ◌∷◌, ◌++◌, Bool, true, false, map, refl, String}
use Rattle.std.specs.Prelude.{Contains, if◌then◌else◌}
use Rattle.std.specs.Str.{bytes_eq}
use Rattle.std.specs.String.{string_bytes}
use Rattle.std.specs.List.{list_any}
use Rattle.std.proofs.lemmas.List.{map-append}
use Rattle.std.proofs.lemmas.List.Elements.{Contains-push}
use Rattle.std.proofs.lemmas.Map.Views.{Contains-from_any}
use Rattle.std.proofs.lemmas.Slice.Eq.{bytes_eq-Decides}
use Rattle.pm_outside.specs.Created.{is_named, with_name}

pub list_any-map : {X Y : Type 0} (p : Y → Bool) (f : X → Y) (xs : List X) → list_any p (map f xs) ≡ list_any (λ x. p (f x)) xs
list_any-map p f [] = refl
list_any-map p f (x ∷ xs) = rw (list_any-map p f xs) refl

-- a name that was added stands in the list
pub is_in_with_name : (names : List (List ℕ)) (name : List ℕ) → Contains (with_name names name) name
is_in_with_name names name =
    elim (is_named names name) as (λ b. is_named names name ≡ b → Contains (if b then names else names ++ name ∷ []) name) [
      | true ↦ λ e. Contains-from_any (λ xs ys same. (bytes_eq-Decides xs ys).0 same) name names e
      | false ↦ λ e. Contains-push names name
    ] refl

-- a list of texts, to which one is added that is not there
pub pushed : {Y : Type 0} (names : List (String Y)) (key : String Y) (name : List ℕ) → string_bytes key ≡ name → list_any (λ other. bytes_eq name (string_bytes other)) names ≡ false → map string_bytes (names ++ key ∷ []) ≡ with_name (map string_bytes names) name
pushed names key name is absent = rw (list_any-map, absent, map-append, is) refl

-- a list of texts that has a name
pub stays : {Y : Type 0} (names : List (String Y)) (name : List ℕ) → list_any (λ other. bytes_eq name (string_bytes other)) names ≡ true → map string_bytes names ≡ with_name (map string_bytes names) name
stays names name there = rw (list_any-map, there) refl
