-- Steps at addresses that become steps on lines.
use Rattle.std.specs.Prelude.{◌≡◌, ℕ, suc, ◌+◌, ◌^◌, ◌<◌, Bool, List, [], ◌∷◌, Option, Some, option_map, if◌then◌else◌}
use Rattle.dwarf_line.specs.declared.lines.Sequence.{Sequence}
use Rattle.dwarf_line.specs.declared.lines.Lines.{Lines}
use Rattle.dwarf_line.specs.Place.{holds, nearest}
use Rattle.line_coverage.specs.declared.spots.Spot.{Spot}
use Rattle.line_coverage.specs.calls.Spots.{spot_of}
use Rattle.line_coverage.specs.inner.Sums.{sum_of, sum_all, spots_sum, Positive}

-- where addresses are
abbrev pub Spotting : Type 0
Spotting = ℕ → Option Spot

-- in a sequence, or else where the others are
abbrev pub in_sequence : ℕ → Sequence → Spotting → Spotting
in_sequence table s others address = if holds address s then option_map (spot_of table) (nearest address s.rows) else others address

abbrev pub in_sequences : ℕ → List Sequence → Spotting → Spotting
in_sequences table [] others address = others address
in_sequences table (s ∷ ss) others address = in_sequence table s (in_sequences table ss others) address

abbrev pub in_tables : ℕ → List Lines → Spotting → Spotting
in_tables table [] others address = others address
in_tables table (l ∷ ls) others address = in_sequences table l.sequences (in_tables (suc table) ls others) address

-- The numbers at one address were added to a line.
pub record MovesOne (spots : List (Spot × ℕ)) (visits : List (ℕ × ℕ)) (new_spots : List (Spot × ℕ)) (new_visits : List (ℕ × ℕ)) (address : ℕ) (to : Spot) : Type 0 where
  pub sums : sum_all spots + sum_all visits < 2 ^ 64 → (at : Spotting) → at address ≡ Some to → (passes : Option Spot → Bool)
      → spots_sum passes new_spots + sum_of (λ a. passes (at a)) new_visits ≡ spots_sum passes spots + sum_of (λ a. passes (at a)) visits
  pub positive : Positive spots → Positive visits → Positive new_spots × Positive new_visits

-- The numbers at addresses that have a line by `found` were added to it: wherever the others are, the sums of both are the same.
pub record Moves (spots : List (Spot × ℕ)) (visits : List (ℕ × ℕ)) (new_spots : List (Spot × ℕ)) (new_visits : List (ℕ × ℕ)) (found : Spotting → Spotting) : Type 0 where
  pub sums : sum_all spots + sum_all visits < 2 ^ 64 → (others : Spotting) (passes : Option Spot → Bool)
      → spots_sum passes new_spots + sum_of (λ a. passes (others a)) new_visits ≡ spots_sum passes spots + sum_of (λ a. passes (found others a)) visits
  pub positive : Positive spots → Positive visits → Positive new_spots × Positive new_visits
