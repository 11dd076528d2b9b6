-- Linear memory: its bytes, and the greatest number of pages that it may have (Core 4.2.8).
use Rattle.std.specs.Prelude.{ℕ, zero, suc, ◌+◌, ◌*◌, ◌/◌, ◌%◌, nat_le, if◌then◌else◌, List, [], ◌∷◌, ◌++◌, length, take, drop, replicate, Option, Some, None}

pub record Memory : Type 0 where
  pub bytes : List ℕ
  pub max : ℕ

abbrev pub page_size : ℕ
page_size = 65536

-- the size in pages
abbrev pub pages : Memory → ℕ
pages m = length m.bytes / page_size

-- a memory as it is allocated (Core 4.5.3.4)
abbrev pub zeroed : ℕ → ℕ → Memory
zeroed n max = record { bytes = replicate (page_size * n) 0; max = max }

-- the n bytes from `at` on
abbrev pub window : List ℕ → ℕ → ℕ → List ℕ
window xs at n = take n (drop at xs)

-- xs with ys in place of what stands from `at` on
abbrev pub splice : List ℕ → ℕ → List ℕ → List ℕ
splice xs at ys = take at xs ++ ys ++ drop (at + length ys) xs

-- the number that bytes spell, the lowest first, and the n lowest bytes of a number (Core 4.3.1, "littleendian")
abbrev pub from_bytes : List ℕ → ℕ
from_bytes [] = 0
from_bytes (b ∷ bs) = b + 256 * from_bytes bs

abbrev pub to_bytes : ℕ → ℕ → List ℕ
to_bytes zero v = []
to_bytes (suc n) v = v % 256 ∷ to_bytes n (v / 256)

-- The instructions (Core 4.4.4; `memory.fill` and `memory.copy` of Core 2.0 4.4.7). None where a range passes the end, or a size the maximum.
-- a load of n bytes
abbrev pub load : Memory → ℕ → ℕ → Option ℕ
load m at n = if nat_le (at + n) (length m.bytes) then Some (from_bytes (window m.bytes at n)) else None

-- the bytes of a list put over those from `at` on
abbrev pub put : Memory → ℕ → List ℕ → Option Memory
put m at ys = if nat_le (at + length ys) (length m.bytes) then Some (record m { bytes = splice m.bytes at ys }) else None

-- a store of n bytes
abbrev pub store : Memory → ℕ → ℕ → ℕ → Option Memory
store m at n v = put m at (to_bytes n v)

-- n equal bytes
abbrev pub fill : Memory → ℕ → ℕ → ℕ → Option Memory
fill m at byte n = put m at (replicate n byte)

-- n bytes as they were before
abbrev pub copy : Memory → ℕ → ℕ → ℕ → Option Memory
copy m to from n = if nat_le (from + n) (length m.bytes) then put m to (window m.bytes from n) else None

-- n more pages of zeros
abbrev pub grow : Memory → ℕ → Option Memory
grow m n = if nat_le (pages m + n) m.max then Some (record m { bytes = m.bytes ++ replicate (page_size * n) 0 }) else None
