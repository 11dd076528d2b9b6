-- What a map from texts to vectors holds, seen as a list of names and bytes.
use Rattle.std.proofs.Common.{◌≡◌, ℕ, List, [], ◌∷◌, true, false, Some, map, cond, refl, String, Vec}
use Rattle.std.specs.Option.{option_map}
use Rattle.std.specs.String.{string_bytes}
use Rattle.std.specs.Str.{bytes_eq}
use Rattle.std.specs.Map.{lookup}
use Rattle.std.specs.BTreeMap.{BTreeMap, get_by_text, is_at}
use Rattle.std.proofs.lemmas.Map.Text.{is_eq-slice_cmp, text_cmp}
use Rattle.pm_outside.specs.Contents.{held}

found : {Y Z : Type 0} (name : List ℕ) (es : List (String Y × Vec ℕ Z)) → lookup (bytes_eq name) (map (λ e. (string_bytes e.0, e.1.items)) es) ≡ option_map (λ v. v.items) (lookup (is_at (text_cmp name)) es)
found name [] = refl
found name (e ∷ es) =
    rw (is_eq-slice_cmp name (string_bytes e.0)) (elim (bytes_eq name (string_bytes e.0)) as (λ b. cond b (Some e.1.items) (lookup (bytes_eq name) (map (λ e. (string_bytes e.0, e.1.items)) es)) ≡ option_map (λ v. v.items) (cond b (Some e.1) (lookup (is_at (text_cmp name)) es))) [
      | true ↦ refl
      | false ↦ found name es
    ])

-- a look-up by name in the list is one in the map
pub held_entries : {Y Z : Type 0} (m : BTreeMap (String Y) (Vec ℕ Z)) (name : List ℕ) → held (map (λ e. (string_bytes e.0, e.1.items)) m.entries) name ≡ option_map (λ v. v.items) (get_by_text m name)
held_entries m name = found name m.entries
