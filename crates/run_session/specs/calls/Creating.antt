-- The names that the steps of a run create.
use Rattle.std.specs.Prelude.{◌≡◌, ◌<◌, ◌⊎◌, ℕ, List}
use Rattle.pm_outside.specs.Created.{with_name}
use Rattle.run_session.specs.RunText.{dump_name}

-- this name is created, or none
abbrev pub MayCreate : (name : List ℕ) → (before now : List (List ℕ)) → Type 0
MayCreate name before now = (now ≡ before) ⊎ (now ≡ with_name before name)

-- that of the dump of a trap whose number is below this one
abbrev pub IsDumpName : (base : List ℕ) → (traps : ℕ) → List ℕ → Type 0
IsDumpName base traps name = (j : ℕ) × (j < traps) × (name ≡ dump_name base j)
