-- Sums and products modulo 2^32.
use Rattle.std.proofs.Common.{◌≡◌, ℕ, ◌+◌, ◌*◌, ◌^◌, ap, arith}
use Rattle.std.proofs.lemmas.Nat.{mul-mod_second}
use Rattle.dwarf_line.specs.declared.lines.Row.{Row}
use Rattle.dwarf_line.specs.Rows.{low, with_address}

pub low_product : (a b : ℕ) → low (a * low b) ≡ low (a * b)
low_product a b = mul-mod_second a b (2 ^ 32)

pub low_sum : (a b : ℕ) → low (a + low b) ≡ low (a + b)
low_sum a b = omega arith

-- An address that is advanced by what is left of a number is advanced by the number.
pub advanced_by_low : (n : ℕ) (r : Row) → with_address (low n) r ≡ with_address n r
advanced_by_low n r = ap (λ (a : ℕ). record r { address = a }) (low_sum r.address n)
