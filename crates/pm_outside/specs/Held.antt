-- What files hold when some of them were written.
use Rattle.std.specs.Prelude.{◌≡◌, ℕ, ◌≤◌, ◌⊎◌, List, [], ◌∷◌, ◌++◌, length, Some, if◌then◌else◌, bytes_eq}
use Rattle.pm_outside.specs.Contents.{Contents}
use Rattle.pm_outside.specs.Written.{HoldsFront}

-- files with their names that are written, the later over the earlier
abbrev pub Writes : Type 0
Writes = List (List ℕ × List ℕ)

abbrev pub held_then : Writes → Contents → Contents
held_then [] files = files
held_then ((file, bytes) ∷ writes) files = held_then writes (λ name. if bytes_eq name file then Some bytes else files name)

abbrev pub HoldThen : Writes → (old new : Contents) → Type 0
HoldThen writes old new = (name : List ℕ) → new name ≡ held_then writes old name

-- this is the first of these files, and it holds a front of its bytes, which may be empty
abbrev pub HoldsPart : Writes → (name : List ℕ) → Contents → Type 0
HoldsPart [] name new = ⊥
HoldsPart ((file, bytes) ∷ writes) name new = (name ≡ file) × HoldsFront file bytes new

-- The files are written one after the other up to the last one, which may hold a front of its bytes alone. All other files are as before.
pub record HoldPart (writes : Writes) (old new : Contents) : Type 0 where
  pub whole : Writes
  pub last : Writes
  pub are : writes ≡ whole ++ last
  pub one : length last ≤ 1
  pub hold : (name : List ℕ) → (new name ≡ held_then whole old name) ⊎ HoldsPart last name new
