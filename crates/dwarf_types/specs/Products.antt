-- Sizes of arrays by their counts (DWARF 4, 5.4).
use Rattle.std.specs.Prelude.{ℕ, ◌*◌, ◌^◌, nat_lt, List, [], ◌∷◌, Option, Some, None, if◌then◌else◌}

-- so many sizes, where the product is below 2 ^ 64
abbrev pub times : Option ℕ → Option ℕ → Option ℕ
times (Some n) (Some size) = if nat_lt (n * size) (2 ^ 64) then Some (n * size) else None
times _ _ = None

-- arrays of arrays, of which the innermost has elements of this size
unfoldable pub array_size : List (Option ℕ) → Option ℕ → Option ℕ
array_size [] size = size
array_size (c ∷ cs) size = times c (array_size cs size)
