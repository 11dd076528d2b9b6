-- A part of a list by its length.
use Rattle.std.proofs.Common.{◌≡◌, ℕ, ◌+◌, ◌-◌, List, take, drop, ap, arith}
use Rattle.linear_memory.specs.Memory.{window}

pub window_mid : (xs : List ℕ) (at n : ℕ) → take (at + n - at) (drop at xs) ≡ window xs at n
window_mid xs at n = let e : at + n - at ≡ n = omega arith in ap (λ k. take k (drop at xs)) e
