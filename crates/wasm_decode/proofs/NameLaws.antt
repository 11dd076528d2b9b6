-- Names that are kept one after another are the first ones of a vector.
use Rattle.std.proofs.Common.{◌≡◌, List, [], ◌∷◌, ◌++◌, Ok, Err, refl}
use Rattle.std.proofs.lemmas.Grind.{fold-append}
use Rattle.wasm_bytes.specs.Place.{Place, Read}
use Rattle.wasm_bytes.specs.Reading.{u32_item, vector_item, items_from}
use Rattle.wasm_decode.specs.Names.{Named, with_name, firsts, named_item, names_item, name_step, name_steps}
use Rattle.wasm_bytes.proofs.Vectors.{made, bind-made, items-steps}
use Rattle.wasm_bytes.proofs.Offsets.{bind-same}

one_behind : (front : List Named) (x : Named) → with_name (firsts front) x ≡ firsts (front ++ x ∷ [])
one_behind front x = rw (fold-append with_name [] front (x ∷ [])) refl

step_kept : (front : List Named) (p : Place) → name_step (firsts front) p ≡ made (λ x. firsts (front ++ x ∷ [])) (named_item p)
unfolding name_step
step_kept front p = cases (named_item p) where
  cases : (read : Read Named) → made (with_name (firsts front)) read ≡ made (λ x. firsts (front ++ x ∷ [])) read
  cases (Ok x) = rw (one_behind front x.0) refl
  cases (Err at) = refl

pub names_kept : (p : Place) → name_steps p ≡ names_item p
unfolding name_steps names_item vector_item
names_kept p =
    rw (bind-made firsts (u32_item p) (λ x. items_from named_item x.0 x.1)) (bind-same (u32_item p) _ _ (λ count q. items-steps firsts named_item name_step step_kept count [] q))
