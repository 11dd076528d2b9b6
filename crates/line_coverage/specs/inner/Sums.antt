-- Sums of numbers by their keys: of steps by addresses, and by lines.
use Rattle.std.specs.Prelude.{◌≡◌, ℕ, ◌+◌, ◌^◌, ◌<◌, Bool, true, List, [], ◌∷◌, Option, Some, if◌then◌else◌}
use Rattle.std.specs.List.{All}
use Rattle.std.specs.Map.{values_of}
use Rattle.line_coverage.specs.declared.spots.Spot.{Spot}

-- the sum of the numbers whose keys pass
abbrev pub sum_of : {K : Type 0} → (K → Bool) → List (K × ℕ) → ℕ
sum_of passes [] = 0
sum_of passes (e ∷ es) = (if passes e.0 then e.1 else 0) + sum_of passes es

abbrev pub sum_all : {K : Type 0} → List (K × ℕ) → ℕ
sum_all es = sum_of (λ _. true) es

abbrev pub Positive : {K : Type 0} → List (K × ℕ) → Type 0
Positive es = All (λ n. 0 < n) (values_of es)

-- so many more at one key, as far as 64 bits hold them all
pub record AddsOne {K : Type 0} (old new : List (K × ℕ)) (k : K) (n : ℕ) : Type 0 where
  pub sums : sum_all old + n < 2 ^ 64 → (passes : K → Bool) → sum_of passes new ≡ sum_of passes old + (if passes k then n else 0)
  pub positive : 0 < n → Positive old → Positive new

-- The sums grew by these, as far as 64 bits hold them all.
pub record Adds {K : Type 0} (old new : List (K × ℕ)) (more : (K → Bool) → ℕ) : Type 0 where
  pub sums : sum_all old + more (λ _. true) < 2 ^ 64 → (passes : K → Bool) → sum_of passes new ≡ sum_of passes old + more passes
  pub positive : Positive old → Positive new

-- those on the lines that pass
abbrev pub spots_sum : (Option Spot → Bool) → List (Spot × ℕ) → ℕ
spots_sum passes es = sum_of (λ s. passes (Some s)) es
