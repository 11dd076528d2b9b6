-- Where the first value of each code stands in a list.
use Rattle.std.specs.Prelude.{◌≡◌, ◌<◌, ◌==◌, ℕ, List, length, slice_get, Option, option_and_then, IfSome, find}

abbrev pub IsPlaced : {T : Type 0} → (T → ℕ) → List T → (ℕ → Option ℕ) → Type 0
IsPlaced code xs place = (c : ℕ) → (option_and_then (slice_get xs) (place c) ≡ find (λ x. code x == c) xs) × IfSome (place c) (λ i. i < length xs)
