-- The signed reading of an integer is the machine's.
use Rattle.std.proofs.Common.{◌≡◌, ℕ, ◌^◌, ◌<◌, inl, inr, arith, w32, w64, to_z}
use Rattle.std.proofs.lemmas.Bool.{lt-ltb, le-ltb, cases_lt}
use Rattle.std.proofs.lemmas.Int.{ints}
use Rattle.int_ops.specs.Integers.{signed}

pub signed_32 : (a : ℕ) → a < 2 ^ 32 → signed 32 a ≡ to_z w32 a
signed_32 a h = elim (cases_lt a (2 ^ 31)) [
  | inl low ↦ rw (lt-ltb a (2 ^ 31) low) (omega (arith, ints))
  | inr high ↦ rw (le-ltb a (2 ^ 31) high) (omega (arith, ints))
]

pub signed_64 : (a : ℕ) → a < 2 ^ 64 → signed 64 a ≡ to_z w64 a
signed_64 a h = elim (cases_lt a (2 ^ 63)) [
  | inl low ↦ rw (lt-ltb a (2 ^ 63) low) (omega (arith, ints))
  | inr high ↦ rw (le-ltb a (2 ^ 63) high) (omega (arith, ints))
]
