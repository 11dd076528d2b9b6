-- What joins a reading function to the language that it reads, and to the places where it stops.
use Rattle.std.specs.Prelude.{◌≡◌, ℕ, ◌<◌, List, [], ◌++◌, length, Option, Some, None, Ok, Err}
use Rattle.std.proofs.Common.{get_or}
use Rattle.wasm_bytes.specs.Place.{Place, Read}

abbrev pub IsBytes : List ℕ → Type 0
IsBytes bytes = (i : ℕ) → get_or bytes i 0 < 256

-- the place between these bytes and those from there to the end of the block
abbrev pub place : List ℕ → List ℕ → Place
place before after = record { block = before ++ after; at = length before }

abbrev pub got : {A : Type 0} → A → Place → Read A
got x q = Ok (x, q)

abbrev pub failed : {A : Type 0} → ℕ → Read A
failed o = Err o

-- A front of the bytes spells the value, and the place is behind it.
pub record Took {A : Type 0} (spells : A → ℕ → List ℕ → Type 0) (before after : List ℕ) (x : A) (q : Place) : Type 0 where
  pub front : List ℕ
  pub rest : List ℕ
  pub is : spells x (length before) front
  pub parts : after ≡ front ++ rest
  pub behind : q ≡ place (before ++ front) rest
  pub bytes : IsBytes rest

-- What is read is spelled so. What is spelled so is read, whatever comes after it.
pub record IsExact {A : Type 0} (spells : A → ℕ → List ℕ → Type 0) (item : Place → Read A) : Type 0 where
  pub sound : (before after : List ℕ) (x : A) (q : Place) → IsBytes after → item (place before after) ≡ got x q → Took spells before after x q
  pub again : (before front rest : List ℕ) (x : A) → spells x (length before) front → item (place before (front ++ rest)) ≡ got x (place (before ++ front) rest)

-- The same of what stands up to the end of a block.
pub record IsTail {A : Type 0} (spells : A → ℕ → List ℕ → Type 0) (item : Place → Read A) : Type 0 where
  pub sound : (before after : List ℕ) (x : A) (q : Place) → IsBytes after → item (place before after) ≡ got x q → spells x (length before) after × (q ≡ place (before ++ after) [])
  pub again : (before after : List ℕ) (x : A) → spells x (length before) after → item (place before after) ≡ got x (place (before ++ after) [])

-- Reading fails exactly where it stops.
pub record StopsAt {A : Type 0} (stops : ℕ → List ℕ → ℕ → Type 0) (item : Place → Read A) : Type 0 where
  pub only : (before after : List ℕ) (o : ℕ) → IsBytes after → item (place before after) ≡ failed o → stops (length before) after o
  pub again : (before after : List ℕ) (o : ℕ) → IsBytes after → stops (length before) after o → item (place before after) ≡ failed o

-- An item fails where it begins.
abbrev pub FailsAtFront : {A : Type 0} → (Place → Read A) → Type 0
FailsAtFront f = (p : Place) (o : ℕ) → f p ≡ failed o → o ≡ p.at

-- Each spelling has a byte.
abbrev pub TakesBytes : {A : Type 0} → (A → ℕ → List ℕ → Type 0) → Type 0
TakesBytes {A} S = (x : A) (at : ℕ) (front : List ℕ) → S x at front → 0 < length front

-- What a first byte picks reads a language, and a byte that picks nothing has none.
abbrev pub PicksExact : {A : Type 0} → (A → ℕ → List ℕ → Type 0) → Option (Place → Read A) → Type 0
PicksExact S (Some f) = IsExact S f
PicksExact {A} S None = (x : A) (at : ℕ) (front : List ℕ) → S x at front → ⊥

-- The byte is a tag exactly where it picks something, which stops so.
abbrev pub PicksStops : {A : Type 0} → Type 0 → (ℕ → List ℕ → ℕ → Type 0) → Option (Place → Read A) → Type 0
PicksStops is_tag stops (Some f) = is_tag × StopsAt stops f
PicksStops is_tag stops None = is_tag → ⊥
