-- The row of an address.
use Rattle.std.specs.Prelude.{◌≡◌, ◌≢◌, ◌<◌, ◌≤◌, ℕ, List, [], ◌∷◌, ◌++◌, Option, Some, None, nat_le, find, filter, option_and_then, if◌then◌else◌}
use Rattle.std.specs.List.{AllByRecursion, reduce}
use Rattle.dwarf_line.specs.declared.lines.Row.{Row}
pub use Rattle.dwarf_line.specs.Holding.{holds_from, holds}
use Rattle.dwarf_line.specs.declared.lines.Sequence.{Sequence}
use Rattle.dwarf_line.specs.declared.lines.Lines.{Lines}

-- ---- what a place is

-- the first of the list that is so
pub record IsFirst {A : Type 0} (P : A → Type 0) (xs : List A) (x : A) : Type 0 where
  pub before : List A
  pub after : List A
  pub parts : xs ≡ before ++ x ∷ after
  pub none_before : AllByRecursion (λ y. P y → ⊥) before
  pub is : P x

-- Its first address is not one that linkers give to removed code.
abbrev pub IsKept : Row → Type 0
IsKept first = (first.address ≢ 0) × (first.address < 0xfffffffe)

-- It holds the address: from its first address up to but not including its end.
abbrev pub HoldsFrom : ℕ → List Row → ℕ → Type 0
HoldsFrom address [] last = ⊥
HoldsFrom address (first ∷ rows) last = IsKept first × (first.address ≤ address) × (address < last)

abbrev pub Holds : ℕ → Sequence → Type 0
Holds address s = HoldsFrom address s.rows s.«end»

-- the row with the greatest address not past this one, the last of equals
pub record IsNearest (address : ℕ) (rows : List Row) (row : Row) : Type 0 where
  pub before : List Row
  pub after : List Row
  pub parts : rows ≡ before ++ row ∷ after
  pub reached : row.address ≤ address
  pub not_below : AllByRecursion (λ (r : Row). r.address ≤ address → r.address ≤ row.address) before
  pub above : AllByRecursion (λ (r : Row). r.address ≤ address → r.address < row.address) after

-- the nearest row in the first sequence that holds the address
abbrev pub IsPlace : ℕ → List Sequence → Row → Type 0
IsPlace address sequences row = (s : Sequence) × IsFirst (Holds address) sequences s × IsNearest address s.rows row

-- No sequence of theirs holds the address.
abbrev pub HoldsNone : ℕ → List Sequence → Type 0
HoldsNone address sequences = AllByRecursion (λ (s : Sequence). Holds address s → ⊥) sequences

-- The place is this row, or there is none.
abbrev pub IsPlaceIfAny : ℕ → List Sequence → Option Row → Type 0
IsPlaceIfAny address sequences (Some row) = IsPlace address sequences row
IsPlaceIfAny address sequences None = HoldsNone address sequences

-- ---- the same, computed

-- the one with the greater address, the second of equals
abbrev pub greater : Row → Row → Row
greater r s = if nat_le r.address s.address then s else r

abbrev pub nearest : ℕ → List Row → Option Row
nearest address rows = reduce greater (filter (λ (r : Row). nat_le r.address address) rows)

unfoldable pub place : ℕ → List Sequence → Option Row
place address sequences = option_and_then (λ (s : Sequence). nearest address s.rows) (find (holds address) sequences)

-- a row, with the program whose files it counts
pub record Located : Type 0 where
  pub lines : Lines
  pub row : Row
