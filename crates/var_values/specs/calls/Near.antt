-- Offsets that are near enough for sums of them to have 128 bits.
use Rattle.std.specs.Prelude.{ℕ, ◌*◌, ◌^◌, ℤ, pos, negsuc, ◌+ℤ◌, ◌-ℤ◌, ◌≤ℤ◌}

-- n times 2 ^ 66 bytes on either side are near too: the place of a member or of an element is less than 2 ^ 65 bytes on
pub record IsNear (n : ℕ) (z : ℤ) : Type 0 where
  pub from : negsuc (2 ^ 119) ≤ℤ (z -ℤ pos (2 ^ 66 * n))
  pub to : (z +ℤ pos (2 ^ 66 * n)) ≤ℤ pos (2 ^ 119)
