-- What the pairs of rows are, by where they begin.
use Rattle.std.specs.Prelude.{◌≡◌, ◌≤◌, ◌<◌, ◌+◌, ◌-◌, ℕ, suc, List, ◌∷◌, length, Option, IfSome, Ok, Err}
use Rattle.std.specs.Ordering.{nat_cmp}
use Rattle.std.specs.BTreeMap.{get}
use Rattle.wasm_bytes.specs.Place.{Place, Read}
use Rattle.wasm_bytes.specs.Reading.{◌>>=◌}
use Rattle.dwarf_bytes.specs.Items.{ended_from}
use Rattle.dwarf_abbrev.specs.calls.Shared.{list_of}
use Rattle.dwarf_info.specs.declared.form.Slot.{Slot}
use Rattle.dwarf_info.specs.Sections.{SectionBytes5}
use Rattle.dwarf_info.specs.declared.known.KnownPairs.{KnownPairs}
use Rattle.dwarf_info.specs.declared.known.PairsAt.{PairsAt}
use Rattle.dwarf_info.specs.declared.known.PairsAt.TheVariants.{Listed, Fault}

abbrev pub Pair : Type 0
Pair = Place → Read (Option Slot)

-- what reading pairs gives
abbrev pub told : List (List Slot) → List ℕ → PairsAt → Read (List Slot)
told lists section (Listed list end) = Ok (list_of lists list, record { block = section; at = end })
told lists section (Fault at) = Err at

-- The list is there, and the end mark ends inside the section.
abbrev pub AreThere : List (List Slot) → List ℕ → ℕ → PairsAt → Type 0
AreThere lists section at (Listed list end) = (list ≤ length lists) × (at ≤ end) × (end ≤ length section)
AreThere lists section at (Fault fault) = Unit {0}

-- Pairs from an offset on are read so: however many are allowed, as long as they are enough for the bytes.
abbrev pub IsTold : Pair → List ℕ → ℕ → Read (List Slot) → Type 0
IsTold pair section at read = (n : ℕ) → length section + 1 - at ≤ n → ended_from pair n (record { block = section; at = at }) ≡ read

abbrev pub IsRight : Pair → List ℕ → List (List Slot) → ℕ → PairsAt → Type 0
IsRight pair section lists at known = IsTold pair section at (told lists section known) × AreThere lists section at known

-- What is known of each offset is right.
abbrev pub Knows : Pair → List ℕ → List (List Slot) → (ℕ → Option PairsAt) → Type 0
Knows pair section lists known = (at : ℕ) → IfSome (known at) (IsRight pair section lists at)

abbrev pub KnowsAll : Pair → SectionBytes5 → KnownPairs → Type 0
KnowsAll pair s known = Knows pair s.base.abbreviations known.lists.value (get nat_cmp known.known)

-- A pair stands in front of the pairs of another offset.
pub record IsInFront (pair : Pair) (section : List ℕ) (at : ℕ) (slot : Slot) (next : ℕ) : Type 0 where
  pub inside : at ≤ length section
  pub moves : at < next
  pub reads : (n : ℕ) → ended_from pair (suc n) (record { block = section; at = at }) ≡ (ended_from pair n (record { block = section; at = next }) >>= λ ys. Ok (slot ∷ ys.0, ys.1))
