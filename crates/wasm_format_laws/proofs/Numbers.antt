-- How many bytes numbers take.
use Rattle.std.proofs.Common.{◌≡◌, ℕ, zero, suc, ◌+◌, ◌/◌, ◌%◌, ◌<◌, ◌≤◌, nat_lt, if◌then◌else◌, Bool, true, false, [], ◌∷◌, length, refl, arith}
use Rattle.std.proofs.lemmas.Bool.{ltb-true, ltb-false}
use Rattle.wasm_leb.specs.Writing.{unsigned_groups, unsigned_bytes}
use Rattle.wasm_format_laws.proofs.Measures.{number_rises}

-- ---- numbers

one_byte : (k n : ℕ) → n < 128 → length (unsigned_groups k n) ≤ 1
unfolding unsigned_groups
one_byte zero n lt = omega arith
one_byte (suc k) n lt = by_test (nat_lt n 128) refl
  where
    by_test : (q : Bool) → nat_lt n 128 ≡ q → length (if q then n ∷ [] else (n % 128 + 128) ∷ unsigned_groups k (n / 128)) ≤ 1
    by_test true e = omega arith
    by_test false e = absurd (let z = ltb-false n 128 e in omega (arith, z, lt))

some_groups : (k n : ℕ) → 1 ≤ length (unsigned_groups k n)
unfolding unsigned_groups
some_groups zero n = omega arith
some_groups (suc k) n = by_test (nat_lt n 128)
  where
    by_test : (q : Bool) → 1 ≤ length (if q then n ∷ [] else (n % 128 + 128) ∷ unsigned_groups k (n / 128))
    by_test true = omega arith
    by_test false = omega arith

few_groups : (k n : ℕ) → length (unsigned_groups k n) ≤ 1 + n / 128
unfolding unsigned_groups
few_groups zero n = omega arith
few_groups (suc k) n = by_test (nat_lt n 128) refl (few_groups k (n / 128))
  where
    by_test : (q : Bool) → nat_lt n 128 ≡ q → length (unsigned_groups k (n / 128)) ≤ 1 + n / 128 / 128 → length (if q then n ∷ [] else (n % 128 + 128) ∷ unsigned_groups k (n / 128)) ≤ 1 + n / 128
    by_test true e r = omega arith
    by_test false e r = omega (arith, r, ltb-false n 128 e)

groups_more : (k m n : ℕ) → m ≤ 3 + n → length (unsigned_groups k m) ≤ 1 + length (unsigned_groups k n)
unfolding unsigned_groups
groups_more zero m n le = omega arith
groups_more (suc k) m n le = by (nat_lt m 128) (nat_lt n 128) refl refl (λ h. one_byte k (m / 128) h) (groups_more k (m / 128) (n / 128) (omega (arith, le)))
  where
    by : (p q : Bool) → nat_lt m 128 ≡ p → nat_lt n 128 ≡ q → (m / 128 < 128 → length (unsigned_groups k (m / 128)) ≤ 1) → length (unsigned_groups k (m / 128)) ≤ 1 + length (unsigned_groups k (n / 128)) → length (if p then m ∷ [] else (m % 128 + 128) ∷ unsigned_groups k (m / 128)) ≤ 1 + length (if q then n ∷ [] else (n % 128 + 128) ∷ unsigned_groups k (n / 128))
    by true true c d one r = omega arith
    by true false c d one r = omega arith
    by false true c d one r = let low : m / 128 < 128 = omega (arith, le, ltb-true n 128 d) in omega (arith, one low)
    by false false c d one r = omega (arith, r)

pub some_bytes : (n : ℕ) → 1 ≤ length (unsigned_bytes n)
unfolding unsigned_bytes
some_bytes n = some_groups 9 n

pub few_bytes : (n : ℕ) → length (unsigned_bytes n) ≤ 1 + n / 128
unfolding unsigned_bytes
few_bytes n = few_groups 9 n

pub single_byte : (n : ℕ) → n < 128 → length (unsigned_bytes n) ≤ 1
unfolding unsigned_bytes
single_byte n lt = one_byte 9 n lt

-- three more takes at most a byte more
pub three_more : (m n : ℕ) → m ≤ 3 + n → length (unsigned_bytes m) ≤ 1 + length (unsigned_bytes n)
unfolding unsigned_bytes
three_more m n le = groups_more 9 m n le

four_at_most : length (unsigned_bytes 268435455) ≡ 4
unfolding unsigned_bytes unsigned_groups
four_at_most = refl

pub four_bytes : (n : ℕ) → n < 268435456 → length (unsigned_bytes n) ≤ 4
four_bytes n lt = let r = number_rises n 268435455 (omega (arith, lt)) in omega (arith, r, four_at_most)
