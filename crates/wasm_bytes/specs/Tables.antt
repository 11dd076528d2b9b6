-- Tables of what stands behind numbers, and the first bytes of a module.
use Rattle.std.specs.Prelude.{ℕ, ◌+◌, List, [], ◌∷◌, Option, Some, None, ◌==◌, if◌then◌else◌}

-- the first row of a number
abbrev pub lookup : {A : Type 0} → ℕ → List (ℕ × A) → Option A
lookup number [] = None
lookup number (row ∷ rows) = if number == row.0 then Some row.1 else lookup number rows

-- rows of numbers that follow one another
abbrev pub rows_from : {A : Type 0} → ℕ → List A → List (ℕ × A)
rows_from first [] = []
rows_from first (x ∷ xs) = (first, x) ∷ rows_from (first + 1) xs

-- the magic number and the version (Core 5.5.15)
abbrev pub header : List ℕ
header = 0x00 ∷ 0x61 ∷ 0x73 ∷ 0x6d ∷ 0x01 ∷ 0x00 ∷ 0x00 ∷ 0x00 ∷ []
