-- The front of a file, which reads make longer.
use Rattle.std.specs.Prelude.{◌≡◌, ℕ, ◌≤◌, List, [], length, take, Option, Some, None, IfSome}

-- what is read so far of a file
abbrev pub IsFront : List ℕ → Option (List ℕ) → Type 0
IsFront bytes None = bytes ≡ []
IsFront bytes (Some all) = (length bytes ≤ length all) × (take (length bytes) all ≡ bytes)

-- nothing is said of what files hold
pub none_said : {A : Type 0} (o : Option A) → IfSome o (λ x. Unit {0})
none_said None = tt
none_said (Some x) = tt
