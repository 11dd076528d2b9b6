-- Sets of addresses, as spans that stand apart.
use Rattle.std.specs.Prelude.{◌≡◌, ◌≤◌, ◌<◌, ℕ, List, [], ◌∷◌, Bool, false, nat_le, nat_lt, ◌&&◌, if◌then◌else◌}
use Rattle.std.specs.List.{list_any}
use Rattle.dwarf_scopes.specs.declared.spans.Span.{Span}

abbrev pub is_in : ℕ → Span → Bool
is_in address s = nat_le s.first address && nat_le address s.last

-- one of them has the address
abbrev pub covers : List Span → ℕ → Bool
covers spans address = list_any (is_in address) spans

abbrev pub from_to : ℕ → ℕ → Span
from_to first last = record { first = first; last = last }

abbrev pub only : Span → List Span
only s = s ∷ []

-- ---- spans, the last one first

abbrev pub EndsBefore : ℕ → List Span → Type 0
EndsBefore limit [] = Unit {0}
EndsBefore limit (s ∷ spans) = s.last < limit

-- None is empty, and each ends in front of the one before it.
abbrev pub Descend : List Span → Type 0
Descend [] = Unit {0}
Descend (s ∷ spans) = (s.first ≤ s.last) × EndsBefore s.first spans × Descend spans

-- An address that is in none of these is in none of both.
abbrev pub Joins : List Span → List Span → List Span → Type 0
Joins left right spans = (address : ℕ) → covers spans address ≡ false → (covers left address ≡ false) × (covers right address ≡ false)

abbrev pub AreJoined : List Span → List Span → List Span → Type 0
AreJoined left right spans = Descend spans × Joins left right spans

-- ---- by where they end

-- those of the list of a span and more spans, where it is known what the others give with those behind it
abbrev pub merged_with : Span → List Span → (List Span → List Span) → List Span → List Span
merged_with s spans rest [] = s ∷ spans
merged_with s spans rest (t ∷ others) = if nat_le t.last s.last then s ∷ rest (t ∷ others) else t ∷ merged_with s spans rest others

-- the spans of both
abbrev pub merged : List Span → List Span → List Span
merged [] others = others
merged (s ∷ spans) others = merged_with s spans (merged spans) others

abbrev pub widened : Span → Span → Span
widened s t = if nat_lt t.first s.first then from_to t.first s.last else s

-- a span and those behind it, with those as one that have addresses in common
abbrev pub apart_from : Span → List Span → List Span
apart_from s [] = s ∷ []
apart_from s (t ∷ spans) = if nat_lt t.last s.first then s ∷ apart_from t spans else apart_from (widened s t) spans

abbrev pub apart : List Span → List Span
apart [] = []
apart (s ∷ spans) = apart_from s spans
