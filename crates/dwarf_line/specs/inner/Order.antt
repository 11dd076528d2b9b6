-- The numbers of rows by their addresses.
use Rattle.std.specs.Prelude.{◌≡◌, ℕ, zero, suc, List, [], ◌∷◌, length, Option, Some, None, Bool, true, false, slice_get}
use Rattle.std.specs.List.Sorted.{IsPermutation, IsSortedByKey}
use Rattle.std.specs.Ordering.{nat_cmp, ordering_then}
use Rattle.std.specs.declared.cmp.Ordering.{Ordering}
use Rattle.dwarf_line.specs.declared.lines.Row.{Row}
use Rattle.dwarf_line.specs.inner.Halving.{ascends_from}

abbrev pub address_if : Option Row → ℕ
address_if None = 0
address_if (Some row) = row.address

-- the address of the row of a number
abbrev pub address_at : List Row → ℕ → ℕ
address_at rows number = address_if (slice_get rows number)

-- so many numbers from one on
abbrev pub numbers_from : ℕ → ℕ → List ℕ
numbers_from number zero = []
numbers_from number (suc more) = number ∷ numbers_from (suc number) more

abbrev pub place_at : List Row → ℕ → ℕ × ℕ
place_at rows number = (address_at rows number, number)

-- by the address, and equal ones by the number
abbrev pub by_place : ℕ × ℕ → ℕ × ℕ → Ordering
by_place p q = ordering_then (nat_cmp p.0 q.0) (nat_cmp p.1 q.1)

-- each row's number once, in this order
abbrev pub IsOrder : List ℕ → List Row → Type 0
IsOrder order rows = IsPermutation (numbers_from 0 (length rows)) order × IsSortedByKey (place_at rows) by_place order

-- Rows ascend by themselves, or there is an order of them, or none was made.
abbrev pub Serves : Bool → List ℕ → List Row → Type 0
Serves true order rows = ascends_from (λ (row : Row). row.address) 0 rows ≡ true
Serves false [] rows = Unit {0}
Serves false (number ∷ order) rows = IsOrder (number ∷ order) rows
