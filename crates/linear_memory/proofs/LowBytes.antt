-- The lowest bytes of a number.
use Rattle.std.proofs.Common.{◌≡◌, ℕ, zero, suc, ◌/◌, ◌%◌, ◌^◌, ◌<◌, List, ◌∷◌, length, take, refl, sym, ◌∙◌, ap, inl, inr, lit<, arith}
use Rattle.std.proofs.Math.Nat.{div-div-eq-div-mul}
use Rattle.std.specs.Int.{w64, to_le_bytes, bytes_low_first, byte_at}
use Rattle.linear_memory.specs.Memory.{to_bytes}
use Rattle.linear_memory.specs.calls.Paged.{IsWidth}

pub length-to_bytes : (n v : ℕ) → length (to_bytes n v) ≡ n
length-to_bytes zero v = refl
length-to_bytes (suc n) v = omega (arith, length-to_bytes n (v / 256))

pub zero_fits : (n : ℕ) → 0 < 256 ^ n
zero_fits zero = lit< tt
zero_fits (suc n) = omega (arith, zero_fits n)

next_byte : (i v : ℕ) → v / 256 ^ i / 256 ≡ v / 256 ^ suc i
next_byte i v = div-div-eq-div-mul v (256 ^ i) 256 ∙ ap (λ (k : ℕ). v / k) (omega arith)

low_first : (k i v : ℕ) → bytes_low_first (suc i) k v ≡ to_bytes k (v / 256 ^ suc i)
low_first zero i v = refl
low_first (suc k) i v = ap (λ (bs : List ℕ). byte_at (suc i) v ∷ bs) (low_first k (suc i) v ∙ ap (to_bytes k) (sym (next_byte (suc i) v)))

-- n bytes of a number, from the lowest up
pub low_bytes : (n v : ℕ) → bytes_low_first 0 n v ≡ to_bytes n v
low_bytes zero v = refl
low_bytes (suc n) v = ap (λ (bs : List ℕ). v % 256 ∷ bs) (low_first n 0 v ∙ ap (λ (k : ℕ). to_bytes n (v / k)) (omega arith))

pub word_bytes : (n v : ℕ) → IsWidth n → take n (to_le_bytes w64 v) ≡ to_bytes n v
word_bytes n v (inl e) = ap (λ (k : ℕ). take k (to_le_bytes w64 v)) e ∙ low_bytes 1 v ∙ ap (λ (k : ℕ). to_bytes k v) (sym e)
word_bytes n v (inr (inl e)) = ap (λ (k : ℕ). take k (to_le_bytes w64 v)) e ∙ low_bytes 2 v ∙ ap (λ (k : ℕ). to_bytes k v) (sym e)
word_bytes n v (inr (inr (inl e))) = ap (λ (k : ℕ). take k (to_le_bytes w64 v)) e ∙ low_bytes 4 v ∙ ap (λ (k : ℕ). to_bytes k v) (sym e)
word_bytes n v (inr (inr (inr e))) = ap (λ (k : ℕ). take k (to_le_bytes w64 v)) e ∙ low_bytes 8 v ∙ ap (λ (k : ℕ). to_bytes k v) (sym e)
