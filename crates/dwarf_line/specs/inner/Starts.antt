-- Where sequences begin that hold addresses.
use Rattle.std.specs.Prelude.{◌≡◌, ℕ, suc, List, [], ◌∷◌, ◌++◌, Option, Some, None, Bool, true, nat_le, nat_lt, ◌&&◌, if◌then◌else◌, find, slice_get, option_and_then}
use Rattle.std.specs.Option.{option_to_list}
use Rattle.dwarf_line.specs.declared.lines.Row.{Row}
use Rattle.dwarf_line.specs.declared.lines.Sequence.{Sequence}
use Rattle.dwarf_line.specs.declared.sequences.Start.{Start}
use Rattle.dwarf_line.specs.Holding.{holds}
use Rattle.dwarf_line.specs.inner.Halving.{ascends_from, last_reached}

-- A sequence holds its first address, or none.
abbrev pub start_by : ℕ → Sequence → List Row → Option Start
start_by index s [] = None
start_by index s (first ∷ rows) = if holds first.address s then Some (record { first = first.address; «end» = s.«end»; index = index }) else None

abbrev pub start_of : ℕ → Sequence → Option Start
start_of index s = start_by index s s.rows

abbrev pub starts_from : ℕ → List Sequence → List Start
starts_from index [] = []
starts_from index (s ∷ ss) = option_to_list (start_of index s) ++ starts_from (suc index) ss

-- Each one ends before the next one begins.
abbrev pub apart_from : ℕ → List Start → Bool
apart_from reached [] = true
apart_from reached (t ∷ ts) = nat_le reached t.first && (nat_lt t.first t.«end» && apart_from t.«end» ts)

abbrev pub if_held : ℕ → Sequence → Option Sequence
if_held address s = if holds address s then Some s else None

-- the sequence of the last start at or before the address, if it holds the address
abbrev pub sought : ℕ → List Start → List Sequence → Option Sequence
sought address starts sequences = option_and_then (λ (t : Start). option_and_then (if_held address) (slice_get sequences t.index)) (last_reached (λ (t : Start). t.first) address starts)

-- Where they are apart, the sequence that is sought is the first that holds the address.
abbrev pub AreStarts : Bool → List Start → List Sequence → Type 0
AreStarts apart starts sequences = apart ≡ true → (ascends_from (λ (t : Start). t.first) 0 starts ≡ true) × ((a : ℕ) → find (holds a) sequences ≡ sought a starts sequences)
