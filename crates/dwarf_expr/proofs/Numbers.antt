-- All 64 bits of a number are the number, whatever its sign.
use Rattle.std.proofs.Common.{◌≡◌, ℕ, ◌%◌, ◌^◌, ◌<◌, ℤ, pos, negsuc, refl, ap, ◌∙◌, inl, inr, arith}
use Rattle.std.specs.Prelude.{◌-ℤ◌}
use Rattle.std.proofs.Math.Nat.{mod-eq_of_lt}
use Rattle.std.proofs.lemmas.Bool.{lt-ltb, le-ltb, cases_lt}
use Rattle.std.proofs.lemmas.Int.{ints}
use Rattle.int_ops.specs.Integers.{signed, unsigned, narrowed}

negative : (z : ℤ) (n : ℕ) → n < 2 ^ 64 → z ≡ pos n -ℤ pos (2 ^ 64) → unsigned 64 z ≡ n
negative (pos a) n fits e = absurd (omega (arith, ints, e))
negative (negsuc a) n fits e = omega (arith, ints, e)

by_sign : (n : ℕ) → n < 2 ^ 64 → unsigned 64 (signed 64 n) ≡ n
by_sign n fits = elim (cases_lt n (2 ^ 63)) [
  | inl low ↦ rw (lt-ltb n (2 ^ 63) low) refl
  | inr high ↦ rw (le-ltb n (2 ^ 63) high) (negative (pos n -ℤ pos (2 ^ 64)) n fits refl)
]

pub all_bits : (n : ℕ) → n < 2 ^ 64 → narrowed 64 64 n ≡ n
all_bits n fits =
    let whole : n % 2 ^ 64 ≡ n = mod-eq_of_lt fits in
    ap (λ (m : ℕ). unsigned 64 (signed 64 m)) whole ∙ by_sign n fits
