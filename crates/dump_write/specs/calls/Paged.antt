-- Segments that are whole pages of a memory.
use Rattle.std.specs.Prelude.{◌≡◌, ℕ, ◌+◌, ◌*◌, ◌≤◌, List, [], ◌∷◌, length}
use Rattle.linear_memory.specs.Memory.{page_size}
use Rattle.dump_format.specs.Region.{Region}

-- Each is a whole page, and their numbers rise, from the first one on that may come.
abbrev pub ArePages : ℕ → List Region → Type 0
ArePages first [] = Unit {0}
ArePages first (r ∷ rs) = (page : ℕ) × (first ≤ page) × (r.at ≡ page_size * page) × (length r.bytes ≡ page_size) × ArePages (page + 1) rs
