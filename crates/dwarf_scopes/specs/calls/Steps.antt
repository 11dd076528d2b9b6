-- Which of several ranges holds an address first, by the addresses at which the answer changes.
use Rattle.std.specs.Prelude.{◌≡◌, ◌≤◌, ◌<◌, ◌^◌, ℕ, ℤ, pos, negsuc, List, [], ◌∷◌, ◌++◌, Option, Some, None, option_map, find, Bool, nat_le, nat_lt, int_lt, if◌then◌else◌}
use Rattle.std.specs.Option.{option_or}
use Rattle.dwarf_scopes.specs.declared.steps.Range.{Range}
use Rattle.dwarf_scopes.specs.declared.steps.Step.{Step}
use Rattle.dwarf_scopes.specs.Ranges.{is_between}

abbrev pub is_in : ℕ → Range → Bool
is_in address r = is_between (r.first, r.«end») address

-- the number of the first range that holds the address
abbrev pub first_in : List Range → ℕ → Option ℕ
first_in ranges address = option_map (λ (r : Range). r.index) (find (is_in address) ranges)

-- ---- steps, the last one first

-- what the first one says that is not past the address
abbrev pub answer : List Step → ℕ → Option ℕ
answer [] address = None
answer (s ∷ steps) address = if nat_le s.from address then s.index else answer steps address

abbrev pub AtMost : ℕ → List Step → Type 0
AtMost most [] = Unit {0}
AtMost most (s ∷ steps) = s.from ≤ most

-- None is past the one in front of it.
abbrev pub Descend : List Step → Type 0
Descend [] = Unit {0}
Descend (s ∷ steps) = AtMost s.from steps × Descend steps

-- They say of every address of 32 bits which range holds it first.
abbrev pub Answer : List Range → List Step → Type 0
Answer ranges steps = (address : ℕ) → address < 2 ^ 32 → answer steps address ≡ first_in ranges address

abbrev pub AreSteps : List Range → List Step → Type 0
AreSteps ranges steps = Descend steps × Answer ranges steps

-- ---- of one range

abbrev pub end_step : ℤ → List Step
end_step (pos n) = if nat_lt n (2 ^ 32) then record { from = n; index = None } ∷ [] else []
end_step (negsuc n) = []

abbrev pub steps_of : Range → List Step
steps_of r = if int_lt (pos r.first) r.«end» then end_step r.«end» ++ record { from = r.first; index = Some r.index } ∷ [] else []

-- ---- of two tables

abbrev pub joined : ℕ → Step → Step → Step
joined from s t = record { from = from; index = option_or s.index t.index }

-- those of the table of a step and more steps, where it is known what the others give with those behind it
abbrev pub merged_with : Step → List Step → (List Step → List Step) → List Step → List Step
merged_with s steps rest [] = s ∷ steps
merged_with s steps rest (t ∷ others) = if nat_le t.from s.from then joined s.from s t ∷ rest (t ∷ others) else joined t.from s t ∷ merged_with s steps rest others

-- The steps of both. Where both have an answer, that of the first counts.
abbrev pub merged : List Step → List Step → List Step
merged [] others = others
merged (s ∷ steps) others = merged_with s steps (merged steps) others
