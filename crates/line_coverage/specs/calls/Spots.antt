-- The source lines of addresses (DWARF 4, 6.2), and numbers of steps on them.
use Rattle.std.specs.Prelude.{◌≡◌, ◌==◌, ◌&&◌, ◌+◌, ℕ, suc, nat_lt, Bool, true, List, [], ◌∷◌, Option, Some, None, option_map, if◌then◌else◌}
use Rattle.std.specs.List.{AllByRecursion}
use Rattle.std.specs.Option.{option_or}
use Rattle.dwarf_line.specs.declared.lines.Row.{Row}
use Rattle.dwarf_line.specs.declared.lines.Lines.{Lines}
use Rattle.dwarf_line.specs.Place.{place}
use Rattle.line_coverage.specs.declared.spots.Spot.{Spot}
use Rattle.line_coverage.specs.declared.spots.LineCount.{LineCount}

-- ---- the line of an address

abbrev pub spot_of : ℕ → Row → Spot
spot_of table row = record { table = table; file = row.file; line = row.line }

abbrev pub spot_from : ℕ → List Lines → ℕ → Option Spot
spot_from table [] address = None
spot_from table (l ∷ ls) address = option_or (option_map (spot_of table) (place address l.sequences)) (spot_from (suc table) ls address)

-- that of its row in the first line program that has one
unfoldable pub spot : List Lines → ℕ → Option Spot
spot = spot_from 0

-- ---- lists of lines

abbrev pub is_spot : Spot → Spot → Bool
is_spot a b = (a.table == b.table) && ((a.file == b.file) && (a.line == b.line))

-- by line program, by file and by line
abbrev pub is_before : Spot → Spot → Bool
is_before a b = if nat_lt a.table b.table then true else (a.table == b.table) && (if nat_lt a.file b.file then true else (a.file == b.file) && nat_lt a.line b.line)

-- each line stands before those behind it, and so once
abbrev pub Ascend : List LineCount → Type 0
Ascend [] = Unit {0}
Ascend (l ∷ ls) = AllByRecursion (λ (k : LineCount). is_before l.spot k.spot ≡ true) ls × Ascend ls

-- how many steps are listed on a line
abbrev pub steps_on : List LineCount → Spot → ℕ
steps_on [] s = 0
steps_on (l ∷ ls) s = if is_spot l.spot s then l.steps else steps_on ls s

-- and on those that pass
abbrev pub lines_sum : (Option Spot → Bool) → List LineCount → ℕ
lines_sum passes [] = 0
lines_sum passes (l ∷ ls) = (if passes (Some l.spot) then l.steps else 0) + lines_sum passes ls
