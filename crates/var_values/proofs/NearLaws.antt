-- Offsets stay near.
use Rattle.std.proofs.Common.{ℕ, suc, ◌+◌, ◌^◌, ◌<◌, ◌≤◌, arith}
use Rattle.std.specs.Prelude.{ℤ, pos, ◌+ℤ◌}
use Rattle.std.proofs.lemmas.Int.{ints}
use Rattle.var_values.specs.calls.Near.{IsNear}
use Rattle.var_values.specs.inner.Close.{IsClose}

-- a member
pub near_member : (n : ℕ) (z d : ℤ) → IsNear (suc n) z → IsClose d → IsNear n (z +ℤ d)
near_member n z d h close = record { from = omega (arith, ints, h.from, close.from); to = omega (arith, ints, h.to, close.to) }

-- an element
pub near_element : (n : ℕ) (z : ℤ) (y : ℕ) → IsNear (suc n) z → y < 2 ^ 64 → IsNear n (z +ℤ pos y)
near_element n z y h lt = record { from = omega (arith, ints, h.from); to = omega (arith, ints, h.to) }

pub near_less : (n : ℕ) (z : ℤ) → IsNear (suc n) z → IsNear n z
near_less n z h = record { from = omega (arith, ints, h.from); to = omega (arith, ints, h.to) }

pub near_one : (n : ℕ) (z : ℤ) → IsNear (suc n) z → IsNear 1 z
near_one n z h = record { from = omega (arith, ints, h.from); to = omega (arith, ints, h.to) }

-- another source
pub near_zero : (n : ℕ) (z : ℤ) → IsNear (suc n) z → IsNear n (pos 0)
near_zero n z h = record { from = omega (arith, ints, h.from, h.to); to = omega (arith, ints, h.from, h.to) }

pub near_start : (n : ℕ) → n ≤ 16 → IsNear n (pos 0)
near_start n few = record { from = omega (arith, ints); to = omega (arith, ints) }
