-- Lists of which each is another one with a value in front.
use Rattle.std.specs.Prelude.{ℕ, zero, suc, List, [], slice_get, Option, Some, None}

abbrev pub or_empty : {A : Type 0} → Option (List A) → List A
or_empty (Some xs) = xs
or_empty None = []

-- the list of a number; 0 is the empty one
abbrev pub list_of : {A : Type 0} → List (List A) → ℕ → List A
list_of lists zero = []
list_of lists (suc i) = or_empty (slice_get lists i)
