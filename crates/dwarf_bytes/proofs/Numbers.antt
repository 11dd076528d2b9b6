-- The numbers that so many bytes spell.
use Rattle.std.proofs.Common.{◌≡◌, ℕ, ◌+◌, ◌*◌, ◌^◌, ◌<◌, ◌≤◌, List, [], ◌∷◌, length, get_or, take, drop, ap, ◌-◌, ◌∙◌, arith}
use Rattle.std.proofs.Math.Nat.{pow-le-pow_right, pow-succ'}
use Rattle.std.proofs.Math.Seq.{take-length}
use Rattle.wasm_bytes.specs.Laws.{IsBytes}
use Rattle.wasm_bytes.proofs.Places.{IsBytes-rest}
use Rattle.dwarf_bytes.specs.Items.{little_endian}

pub little_endian_below : (bytes : List ℕ) → IsBytes bytes → little_endian bytes < 256 ^ length bytes
little_endian_below [] fits = omega arith
little_endian_below (b ∷ bs) fits =
    let low : b < 256 = fits 0 in
    let high = little_endian_below bs (IsBytes-rest (b ∷ []) bs fits) in
    let power : 256 ^ length (b ∷ bs) ≡ 256 * 256 ^ length bs = pow-succ' 256 (length bs) in
    omega (arith, low, high, power)

-- A number of at most eight bytes has at most 64 bits.
pub little_endian_fits : (bytes : List ℕ) → IsBytes bytes → length bytes ≤ 8 → little_endian bytes < 2 ^ 64
little_endian_fits bytes fits short =
    let below = little_endian_below bytes fits in
    let power : 256 ^ length bytes ≤ 256 ^ 8 = pow-le-pow_right (omega arith) short in
    omega (arith, below, power)

-- the same of its lowest byte and the others
pub parts_fit : (bytes : List ℕ) (low high : ℕ) → IsBytes bytes → 1 ≤ length bytes → length bytes ≤ 8 → low ≡ get_or bytes 0 0 → high ≡ little_endian (take (length bytes - 1) (drop 1 bytes)) → low + 256 * high < 2 ^ 64
parts_fit [] low high fits some short is others = absurd (omega (arith, some))
parts_fit (b ∷ bs) low high fits some short is others =
    let all : b + 256 * little_endian bs < 2 ^ 64 = little_endian_fits (b ∷ bs) fits short in
    let left : length (b ∷ bs) - 1 ≡ length bs = omega arith in
    let same : take (length (b ∷ bs) - 1) bs ≡ bs = ap (λ (n : ℕ). take n bs) left ∙ take-length bs in
    let high_is : high ≡ little_endian bs = others ∙ ap little_endian same in
    rw (is, high_is) all
