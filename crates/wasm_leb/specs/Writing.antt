-- The shortest spelling of a number as a list of bytes (Core 5.2.2): its groups of seven bits, the lowest first,
-- each byte but the last with 128 added.
use Rattle.std.specs.Prelude.{ℕ, ◌+◌, ◌-◌, ◌/◌, ◌%◌, List, [], ◌∷◌, Bool, nat_lt, if◌then◌else◌, ℤ, pos, negsuc}
use Rattle.std.proofs.Common.{zero, suc}

-- with at most that many bytes before the last one
unfoldable pub unsigned_groups : ℕ → ℕ → List ℕ
unsigned_groups zero n = n ∷ []
unsigned_groups (suc k) n = if nat_lt n 128 then n ∷ [] else (n % 128 + 128) ∷ unsigned_groups k (n / 128)

-- the shortest spelling of a number of up to 64 bits
unfoldable pub unsigned_bytes : ℕ → List ℕ
unsigned_bytes n = unsigned_groups 9 n

-- the low seven bits in two's complement, and the number that the bits above them make
abbrev pub low_seven : ℤ → ℕ
low_seven (pos n) = n % 128
low_seven (negsuc n) = 127 - n % 128

abbrev pub above_seven : ℤ → ℤ
above_seven (pos n) = pos (n / 128)
above_seven (negsuc n) = negsuc (n / 128)

-- seven bits in two's complement hold the number: it is at least -64 and below 64
abbrev pub fits_seven : ℤ → Bool
fits_seven (pos n) = nat_lt n 64
fits_seven (negsuc n) = nat_lt n 64

unfoldable pub signed_groups : ℕ → ℤ → List ℕ
signed_groups zero z = low_seven z ∷ []
signed_groups (suc k) z = if fits_seven z then low_seven z ∷ [] else (low_seven z + 128) ∷ signed_groups k (above_seven z)

-- the shortest spelling of a signed number of up to 64 bits
unfoldable pub signed_bytes : ℤ → List ℕ
signed_bytes z = signed_groups 9 z
