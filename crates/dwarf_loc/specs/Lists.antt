-- What a location list or a range list says (DWARF 4, 2.6.2 and 2.17.3; DWARF 5, 2.6.2 and 2.17.3). Each entry holds something: the place of an
-- expression, or nothing.
use Rattle.std.specs.Prelude.{ℕ, ◌+◌, ℤ, pos, List, [], ◌∷◌, Option, Some, None, find, Bool, ◌&&◌, nat_le, int_lt}
use Rattle.dwarf_loc.specs.declared.entry.ListEntry.{ListEntry}
use Rattle.dwarf_loc.specs.declared.entry.ListEntry.TheVariants.{Base, FromBase, Between, Lasting, Otherwise}

-- addresses and what is held there; sums of addresses are whole numbers
pub record Held (A : Type 0) : Type 0 where
  pub begin : ℕ
  pub end : ℕ
  pub what : A

abbrev pub held : {A : Type 0} → ℕ → ℕ → A → Held A
held begin end what = record { begin = begin; end = end; what = what }

-- the entries that hold addresses, each from the base that is in force there
abbrev pub held_by : {A : Type 0} → ℕ → List (ListEntry A) → List (Held A)
held_by start [] = []
held_by start (Base address ∷ entries) = held_by address entries
held_by start (FromBase begin end what ∷ entries) = held (start + begin) (start + end) what ∷ held_by start entries
held_by start (Between begin end what ∷ entries) = held begin end what ∷ held_by start entries
held_by start (Lasting begin length what ∷ entries) = held begin (begin + length) what ∷ held_by start entries
held_by start (Otherwise what ∷ entries) = held_by start entries

-- from the first address up to but not including the second
abbrev pub is_between : ℕ × ℤ → ℕ → Bool
is_between bounds address = nat_le bounds.0 address && int_lt (pos address) bounds.1

abbrev pub holds : {A : Type 0} → ℕ → Held A → Bool
holds address h = is_between (h.begin, pos h.end) address

abbrev pub defaults : {A : Type 0} → List (ListEntry A) → Option A
defaults [] = None
defaults (Otherwise what ∷ entries) = Some what
defaults (_ ∷ entries) = defaults entries

abbrev pub first_or : {A : Type 0} → Option A → Option (Held A) → Option A
first_or other (Some h) = Some h.what
first_or other None = other

-- The first entry that holds the address counts, and a default where there is none.
abbrev pub chosen : {A : Type 0} → ℕ → ℕ → List (ListEntry A) → Option A
chosen start address entries = first_or (defaults entries) (find (holds address) (held_by start entries))
