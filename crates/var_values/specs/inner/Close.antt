-- Distances in structures, as attributes give them.
use Rattle.std.specs.Prelude.{◌^◌, ℤ, pos, negsuc, ◌≤ℤ◌}

pub record IsClose (z : ℤ) : Type 0 where
  pub from : negsuc (2 ^ 64) ≤ℤ z
  pub to : z ≤ℤ pos (2 ^ 64)
