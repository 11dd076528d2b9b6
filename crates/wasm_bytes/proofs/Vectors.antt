-- Reading a vector into a state, where the state is a function of what was read.
use Rattle.std.proofs.Common.{◌≡◌, ℕ, zero, suc, List, [], ◌∷◌, ◌++◌, Ok, Err, refl, ◌∙◌, append_assoc}
use Rattle.std.proofs.lemmas.List.{append-nil}
use Rattle.std.proofs.lemmas.Grind.{fold-append}
use Rattle.wasm_bytes.specs.Place.{Place, Read}
use Rattle.wasm_bytes.specs.Reading.{◌>>=◌, ◌▷◌, u32_item, vector_item, items_from, steps_from}
use Rattle.wasm_bytes.specs.Notes.{plain, with_noted, together, noted_vector_item}
use Rattle.wasm_bytes.specs.calls.NotedSteps.{noted_step, noted_steps}
use Rattle.wasm_bytes.specs.declared.noted.Noted.{Noted}
use Rattle.wasm_bytes.proofs.Offsets.{bind-same}

-- the value made of what was read
abbrev pub made : {A B : Type 0} → (A → B) → Read A → Read B
made to read = read >>= λ x. Ok (to x.0, x.1)

-- a function of a read, at each of its cases
pub made-bind : {A B C : Type 0} (to : A → B) (read : Read A) (f : B × Place → Read C) → (made to read >>= f) ≡ (read >>= λ x. f (to x.0, x.1))
made-bind to (Ok x) f = refl
made-bind to (Err at) f = refl

pub bind-made : {A B C : Type 0} (to : B → C) (read : Read A) (f : A × Place → Read B) → made to (read >>= f) ≡ (read >>= λ x. made to (f x))
bind-made to (Ok x) f = refl
bind-made to (Err at) f = refl

pub made-made : {A B C : Type 0} (f : A → B) (g : B → C) (read : Read A) → made g (made f read) ≡ made (λ x. g (f x)) read
made-made f g (Ok x) = refl
made-made f g (Err at) = refl

pub items-steps : {A S : Type 0} (to : List A → S) (item : Place → Read A) (step : S → Place → Read S)
    → ((front : List A) (p : Place) → step (to front) p ≡ made (λ x. to (front ++ x ∷ [])) (item p))
    → (n : ℕ) (front : List A) (p : Place) → steps_from step n (to front) p ≡ made (λ xs. to (front ++ xs)) (items_from item n p)
unfolding steps_from items_from
items-steps to item step one zero front p = rw (append-nil front) refl
items-steps {A} to item step one (suc n) front p =
    rw (one front p, made-bind (λ x. to (front ++ x ∷ [])) (item p) (λ x. steps_from step n x.0 x.1), bind-made (λ xs. to (front ++ xs)) (item p) (λ x. items_from item n x.1 >>= λ others. Ok (x.0 ∷ others.0, others.1)))
    (bind-same (item p) _ _ (λ x q. items-steps to item step one n (front ++ x ∷ []) q ∙ behind x (items_from item n q)))
  where
    behind : (x : A) (read : Read (List A)) → made (λ xs. to ((front ++ x ∷ []) ++ xs)) read ≡ made (λ xs. to (front ++ xs)) (read >>= λ others. Ok (x ∷ others.0, others.1))
    behind x (Ok xs) = rw (append_assoc front (x ∷ []) xs.0) refl
    behind x (Err at) = refl

pub vector-steps : {A S : Type 0} (to : List A → S) (item : Place → Read A) (step : S → Place → Read S)
    → ((front : List A) (p : Place) → step (to front) p ≡ made (λ x. to (front ++ x ∷ [])) (item p))
    → (p : Place) → (u32_item ▷ λ count. steps_from step count (to [])) p ≡ made to (vector_item item p)
unfolding vector_item
vector-steps to item step one p =
    rw (bind-made to (u32_item p) (λ x. items_from item x.0 x.1)) (bind-same (u32_item p) _ _ (λ count q. items-steps to item step one count [] q))

-- ---- values that may hold floats

pub one-noted : {A : Type 0} (front : List (Noted A)) (x : Noted A) → with_noted (together front) x ≡ together (front ++ x ∷ [])
one-noted front x = rw (fold-append with_noted (plain []) front (x ∷ [])) refl

pub step-noted : {A : Type 0} (item : Place → Read (Noted A)) (front : List (Noted A)) (p : Place) → noted_step item (together front) p ≡ made (λ x. together (front ++ x ∷ [])) (item p)
unfolding noted_step
step-noted {A} item front p = cases (item p) where
  cases : (read : Read (Noted A)) → made (with_noted (together front)) read ≡ made (λ x. together (front ++ x ∷ [])) read
  cases (Ok x) = rw (one-noted front x.0) refl
  cases (Err at) = refl

pub vector-noted : {A : Type 0} (item : Place → Read (Noted A)) (p : Place) → noted_steps item p ≡ noted_vector_item item p
unfolding noted_steps noted_vector_item
vector-noted item p = vector-steps together item (noted_step item) (step-noted item) p
