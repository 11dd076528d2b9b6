-- The last value of an ascending list whose number is not past a bound.
use Rattle.std.specs.Prelude.{ℕ, List, [], ◌∷◌, Option, Some, None, Bool, true, nat_le, ◌&&◌, if◌then◌else◌}
use Rattle.std.specs.Option.{option_or}

-- The numbers ascend, and none is less than the first one.
abbrev pub ascends_from : {X : Type 0} → (X → ℕ) → ℕ → List X → Bool
ascends_from n low [] = true
ascends_from n low (x ∷ xs) = nat_le low (n x) && ascends_from n (n x) xs

-- the last one in front of the first number past the bound
abbrev pub last_reached : {X : Type 0} → (X → ℕ) → ℕ → List X → Option X
last_reached n bound [] = None
last_reached n bound (x ∷ xs) = if nat_le (n x) bound then option_or (last_reached n bound xs) (Some x) else None
