-- Bodies that are read one after another are those of a vector.
use Rattle.std.proofs.Common.{◌≡◌, ℕ, List, [], ◌∷◌, ◌++◌, Ok, Err, refl}
use Rattle.std.specs.Prelude.{◌==◌}
use Rattle.wasm_syntax.specs.declared.parts.Body.{Body}
use Rattle.wasm_bytes.specs.Place.{Place, Read}
use Rattle.wasm_bytes.specs.Reading.{mapped, checked, u32_item, items_from}
use Rattle.wasm_bytes.specs.declared.noted.Noted.{Noted}
use Rattle.wasm_bytes.specs.Notes.{together}
use Rattle.wasm_format.specs.Expressions.{code_item}
use Rattle.wasm_format.specs.Sections.{bodies_item}
use Rattle.wasm_decode.specs.declared.bodies.CodeEntries.{CodeEntries}
use Rattle.wasm_decode.specs.calls.Steps.{with_body, code_step, entries_steps, bodies_steps}
use Rattle.wasm_bytes.proofs.Offsets.{bind-same}
use Rattle.wasm_bytes.proofs.Vectors.{made, made-made, items-steps, one-noted}

abbrev entries_of : ℕ → List (Noted Body) → CodeEntries
entries_of origin front = record { origin = origin; bodies = together front }

step_code : (origin : ℕ) (front : List (Noted Body)) (p : Place) → code_step (entries_of origin front) p ≡ made (λ x. entries_of origin (front ++ x ∷ [])) (code_item origin p)
unfolding code_step
step_code origin front p = cases (code_item origin p) where
  cases : (read : Read (Noted Body)) → made (with_body (entries_of origin front)) read ≡ made (λ x. entries_of origin (front ++ x ∷ [])) read
  cases (Ok x) = rw (one-noted front x.0) refl
  cases (Err at) = refl

entries_same : (origin count : ℕ) (p : Place) → entries_steps origin count p ≡ mapped together (items_from (code_item origin) count) p
entries_same origin count p =
    rw (items-steps (entries_of origin) (code_item origin) code_step (step_code origin) count [] p)
    (made-made (entries_of origin) (λ (s : CodeEntries). s.bodies) (items_from (code_item origin) count p))

pub bodies_same : (due : ℕ) (p : Place) → bodies_steps due p ≡ bodies_item due p
unfolding bodies_steps bodies_item
bodies_same due p = bind-same (checked (λ n. n == due) u32_item p) _ _ (λ count q. entries_same p.at count q)
