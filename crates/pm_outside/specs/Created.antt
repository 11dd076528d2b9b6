-- The names whose creation was answered Done.
use Rattle.std.specs.Prelude.{ℕ, Bool, List, [], ◌∷◌, ◌++◌, if◌then◌else◌}
use Rattle.std.specs.Str.{bytes_eq}
use Rattle.std.specs.List.{list_any}
use Rattle.pm_outside.specs.declared.answers.WriteAnswer.{WriteAnswer}
use Rattle.pm_outside.specs.declared.answers.WriteAnswer.TheVariants as write

-- whether a name stands in a list
abbrev pub is_named : List (List ℕ) → List ℕ → Bool
is_named names name = list_any (bytes_eq name) names

-- the list with a name, which stands in it once
abbrev pub with_name : List (List ℕ) → List ℕ → List (List ℕ)
with_name names name = if is_named names name then names else names ++ name ∷ []

abbrev pub names_after : WriteAnswer → List (List ℕ) → List ℕ → List (List ℕ)
names_after write.Done names name = with_name names name
names_after write.Failed names name = names
names_after write.NoMemory names name = names
