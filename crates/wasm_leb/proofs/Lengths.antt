-- How long the encodings of numbers are.
use Rattle.std.proofs.Common.{◌≡◌, ℕ, zero, suc, ◌+◌, ◌*◌, ◌/◌, ◌<◌, ◌≤◌, Bool, true, false, cond, List, [], ◌∷◌, ◌++◌, length, take, get_or, sym, ap, subst, ◌∙◌, arith, length-append, ℤ, All}
use Rattle.std.specs.Prelude.{nat_lt}
use Rattle.std.specs.Int.{w32, cast_signed}
use Rattle.std.specs.List.{flat_map}
use Rattle.std.proofs.lemmas.List.{take_more, take_all}
use Rattle.std.proofs.lemmas.List.Concat.{flat_map-append}
use Rattle.wasm_leb.specs.Writing.{unsigned_groups, unsigned_bytes, fits_seven, signed_groups, signed_bytes, above_seven}

-- a number has at most ten bytes
pub one_or_more : (b : Bool) (k : ℕ) (xs ys : List ℕ) → length xs ≤ k → length ys ≤ k → length (cond b xs ys) ≤ k
one_or_more true k xs ys one more = one
one_or_more false k xs ys one more = more

pub unsigned_long : (k n : ℕ) → length (unsigned_groups k n) ≤ suc k
unfolding unsigned_groups
unsigned_long zero n = omega arith
unsigned_long (suc k) n = one_or_more (nat_lt n 128) (suc (suc k)) _ _ (omega arith) (omega (arith, unsigned_long k (n / 128)))

pub signed_long : (k : ℕ) (z : ℤ) → length (signed_groups k z) ≤ suc k
unfolding signed_groups
signed_long zero z = omega arith
signed_long (suc k) z = one_or_more (fits_seven z) (suc (suc k)) _ _ (omega arith) (omega (arith, signed_long k (above_seven z)))

pub ten_bytes : (n : ℕ) → length (unsigned_bytes n) ≤ 10
unfolding unsigned_bytes
ten_bytes n = unsigned_long 9 n

pub ten_signed : (z : ℤ) → length (signed_bytes z) ≤ 10
unfolding signed_bytes
ten_signed z = signed_long 9 z
