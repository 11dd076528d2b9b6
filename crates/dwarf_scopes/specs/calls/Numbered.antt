-- The elements of a list by their numbers.
use Rattle.std.specs.Prelude.{ℕ, ◌+◌, ℤ, List, [], ◌∷◌, ◌++◌, map, Option, Some, None, Bool, false, nat_lt, if◌then◌else◌}
use Rattle.std.specs.List.{list_any}
use Rattle.dwarf_scopes.specs.declared.steps.Range.{Range}
use Rattle.dwarf_scopes.specs.Ranges.{is_between}

-- bounds as ranges with this number
abbrev pub with_number : ℕ → List (ℕ × ℤ) → List Range
with_number index bs = map (λ (b : ℕ × ℤ). record { first = b.0; «end» = b.1; index = index }) bs

-- the bounds of each as ranges with its number, where the first one has this number
abbrev pub ranges_from : {A : Type 0} → (A → List (ℕ × ℤ)) → ℕ → List A → List Range
ranges_from bounds index [] = []
ranges_from bounds index (x ∷ xs) = with_number index (bounds x) ++ ranges_from bounds (index + 1) xs

-- one of its bounds holds the address
abbrev pub is_within : {A : Type 0} → (A → List (ℕ × ℤ)) → ℕ → A → Bool
is_within bounds address x = list_any (λ (b : ℕ × ℤ). is_between b address) (bounds x)

-- the numbers of those that pass
abbrev pub numbers_from : {A : Type 0} → (A → Bool) → ℕ → List A → List ℕ
numbers_from test index [] = []
numbers_from test index (x ∷ xs) = if test x then index ∷ numbers_from test (index + 1) xs else numbers_from test (index + 1) xs

-- It is there, and passes.
abbrev pub passes : {A : Type 0} → (A → Bool) → Option A → Bool
passes test None = false
passes test (Some x) = test x

abbrev pub is_before : Option ℕ → ℕ → Bool
is_before None index = false
is_before (Some named) index = nat_lt named index

-- the first of these numbers that passes, or another one if that is less
abbrev pub first_or : (ℕ → Bool) → Option ℕ → List ℕ → Option ℕ
first_or test named [] = named
first_or test named (index ∷ more) = if is_before named index then named else (if test index then Some index else first_or test named more)
