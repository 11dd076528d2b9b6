-- A rotation as the sum of its two parts.
use Rattle.std.proofs.Common.{◌≡◌, ℕ, zero, suc, ◌+◌, ◌-◌, ◌*◌, ◌/◌, ◌%◌, ◌^◌, ◌<◌, sym, subst, ◌∙◌, arith, bit_or}
use Rattle.std.proofs.Math.Nat.{mul-mod_left, div-lt_iff_lt-mul, mul_comm, mul-one, pow-zero, sub-zero, mod_self, mod-one, div-one, mod-eq_of_lt, div-eq_of_lt}
use Rattle.std.specs.Int.Bits.{or_self, or_comm, or_shifted}
use Rattle.std.proofs.lemmas.Nat.{pow-add, pow_pos, shl-shr, mod-pow-add}
use Rattle.std.specs.Int.{rotate_left, rotate_right, w32, w64}
use Rattle.int_ops.specs.Integers.{rotl, rotr}

-- of m + k bits, the lowest m moved up by k
moved_up : (m k a : ℕ) → (a * 2 ^ k) % 2 ^ (m + k) ≡ (a % 2 ^ m) * 2 ^ k
moved_up m k a = rw (mod-pow-add (a * 2 ^ k) m k, shl-shr a k, mul-mod_left a (2 ^ k)) (omega arith)

high_part : (m k a : ℕ) → a < 2 ^ (m + k) → a / 2 ^ m < 2 ^ k
high_part m k a h = (div-lt_iff_lt-mul (pow_pos m)).1 (omega (arith, pow-add 2 m k, mul_comm (2 ^ m) (2 ^ k)))

-- and the highest k below them
joined : (m k a : ℕ) → a < 2 ^ (m + k) → bit_or ((a * 2 ^ k) % 2 ^ (m + k)) (a / 2 ^ m) ≡ (a % 2 ^ m) * 2 ^ k + a / 2 ^ m
joined m k a h = rw (moved_up m k a) (or_shifted (a % 2 ^ m) k (a / 2 ^ m) (high_part m k a h))

-- n bits, of which k move
rotated_left : (n k a : ℕ) → k < n → a < 2 ^ n → bit_or ((a * 2 ^ k) % 2 ^ n) (a / 2 ^ ((n - k) % n)) ≡ rotl n a k
unfolding rotl
rotated_left n zero a h small =
    let none : (n - 0) % n ≡ 0 = rw (sub-zero n) (mod_self n) in
    let all : a % 2 ^ n ≡ a = mod-eq_of_lt small in
    let gone : a / 2 ^ n ≡ 0 = div-eq_of_lt small in
    rw (none, sub-zero n, pow-zero 2, mul-one a, div-one a, all, gone, or_self a) (omega arith)
rotated_left n (suc k) a h small =
    let left : (n - suc k) % n ≡ n - suc k = mod-eq_of_lt (omega arith) in
    let whole : n ≡ (n - suc k) + suc k = omega arith in
    let below : a < 2 ^ ((n - suc k) + suc k) = subst (λ (m : ℕ). a < 2 ^ m) whole small in
    rw left (subst (λ (m : ℕ). bit_or ((a * 2 ^ suc k) % 2 ^ m) (a / 2 ^ (n - suc k)) ≡ (a % 2 ^ (n - suc k)) * 2 ^ suc k + a / 2 ^ (n - suc k)) (sym whole) (joined (n - suc k) (suc k) a below))

rotated_right : (n k a : ℕ) → k < n → a < 2 ^ n → bit_or (a / 2 ^ k) ((a * 2 ^ ((n - k) % n)) % 2 ^ n) ≡ rotr n a k
unfolding rotr
rotated_right n zero a h small =
    let none : (n - 0) % n ≡ 0 = rw (sub-zero n) (mod_self n) in
    let all : a % 2 ^ n ≡ a = mod-eq_of_lt small in
    let nothing : a % 1 ≡ 0 = mod-one a in
    rw (none, sub-zero n, pow-zero 2, mul-one a, div-one a, all, nothing, or_self a) (omega arith)
rotated_right n (suc k) a h small =
    let left : (n - suc k) % n ≡ n - suc k = mod-eq_of_lt (omega arith) in
    let whole : n ≡ suc k + (n - suc k) = omega arith in
    let below : a < 2 ^ (suc k + (n - suc k)) = subst (λ (m : ℕ). a < 2 ^ m) whole small in
    rw left (subst (λ (m : ℕ). bit_or (a / 2 ^ suc k) ((a * 2 ^ (n - suc k)) % 2 ^ m) ≡ (a % 2 ^ suc k) * 2 ^ (n - suc k) + a / 2 ^ suc k) (sym whole) (or_comm (a / 2 ^ suc k) ((a * 2 ^ (n - suc k)) % 2 ^ (suc k + (n - suc k))) ∙ joined (suc k) (n - suc k) a below))

pub left_32 : (a by : ℕ) → a < 2 ^ 32 → rotate_left w32 a by ≡ rotl 32 a (by % 32)
left_32 a by h = rotated_left 32 (by % 32) a (omega arith) h

pub left_64 : (a by : ℕ) → a < 2 ^ 64 → rotate_left w64 a by ≡ rotl 64 a (by % 64)
left_64 a by h = rotated_left 64 (by % 64) a (omega arith) h

pub right_32 : (a by : ℕ) → a < 2 ^ 32 → rotate_right w32 a by ≡ rotr 32 a (by % 32)
right_32 a by h = rotated_right 32 (by % 32) a (omega arith) h

pub right_64 : (a by : ℕ) → a < 2 ^ 64 → rotate_right w64 a by ≡ rotr 64 a (by % 64)
right_64 a by h = rotated_right 64 (by % 64) a (omega arith) h
