-- The added locals are apart.
use Rattle.std.proofs.Common.{◌≡◌, ◌≢◌, ℕ, ◌+◌, ◌*◌, ◌<◌, ◌≤◌, length, refl, ap, ap₂, arith}
use Rattle.wasm_syntax.specs.declared.value.ValType.{ValType}
use Rattle.wasm_syntax.specs.declared.value.ValType.TheVariants.{I32, I64}
use Rattle.rewrite_bodies.specs.calls.Slots.{slot}
use Rattle.operand_spill.specs.calls.Plans.{Planned, AddedLocal, Slot, Result, Kind, Offset, Length, IsAdded, number}

same_slot : (n : ℕ) (t u : ValType) (h k : ℕ) → h ≤ n → k ≤ n → slot n t h ≡ slot n u k → (t ≡ u) × (h ≡ k)
same_slot n I32 I32 h k a b e = (refl, omega (arith, e))
same_slot n I32 I64 h k a b e = absurd (omega (arith, a, e))
same_slot n I64 I32 h k a b e = absurd (omega (arith, b, e))
same_slot n I64 I64 h k a b e = (refl, omega (arith, e))

no_trap : (n : ℕ) (t : ValType) (h : ℕ) → h ≤ n → (slot n t h ≢ n + 1) × (slot n t h ≢ n + 2)
no_trap n I32 h le = (omega (arith, le), omega (arith, le))
no_trap n I64 h le = (omega arith, omega arith)

slot_most : (n : ℕ) (t : ValType) (h : ℕ) → h ≤ n → slot n t h < 2 * n + 4
slot_most n I32 h le = omega (arith, le)
slot_most n I64 h le = omega (arith, le)

module _ (plan : Planned) where
  abbrev n : ℕ
  n = plan.slots

  top : n ≤ n
  top = omega arith

  pub apart : (a b : AddedLocal) → IsAdded plan a → IsAdded plan b → number plan a ≡ number plan b → a ≡ b
  apart (Slot t h) (Slot u k) ia ib e = let s = same_slot n t u h k (omega (arith, ia)) (omega (arith, ib)) (omega (arith, e)) in ap₂ Slot s.0 s.1
  apart (Slot t h) (Result u) ia ib e = let s = same_slot n t u h n (omega (arith, ia)) top (omega (arith, e)) in absurd (omega (arith, ia, s.1))
  apart (Slot t h) Kind ia ib e = absurd ((no_trap n t h (omega (arith, ia))).0 (omega (arith, e)))
  apart (Slot t h) Offset ia ib e = absurd ((no_trap n t h (omega (arith, ia))).1 (omega (arith, e)))
  apart (Slot t h) Length ia ib e = absurd (omega (arith, e, slot_most n t h (omega (arith, ia))))
  apart (Result t) (Slot u k) ia ib e = let s = same_slot n t u n k top (omega (arith, ib)) (omega (arith, e)) in absurd (omega (arith, ib, s.1))
  apart (Result t) (Result u) ia ib e = ap Result (same_slot n t u n n top top (omega (arith, e))).0
  apart (Result t) Kind ia ib e = absurd ((no_trap n t n top).0 (omega (arith, e)))
  apart (Result t) Offset ia ib e = absurd ((no_trap n t n top).1 (omega (arith, e)))
  apart (Result t) Length ia ib e = absurd (omega (arith, e, slot_most n t n top))
  apart Kind (Slot u k) ia ib e = absurd ((no_trap n u k (omega (arith, ib))).0 (omega (arith, e)))
  apart Kind (Result u) ia ib e = absurd ((no_trap n u n top).0 (omega (arith, e)))
  apart Kind Kind ia ib e = refl
  apart Kind Offset ia ib e = absurd (omega (arith, e))
  apart Kind Length ia ib e = absurd (omega (arith, e))
  apart Offset (Slot u k) ia ib e = absurd ((no_trap n u k (omega (arith, ib))).1 (omega (arith, e)))
  apart Offset (Result u) ia ib e = absurd ((no_trap n u n top).1 (omega (arith, e)))
  apart Offset Kind ia ib e = absurd (omega (arith, e))
  apart Offset Offset ia ib e = refl
  apart Offset Length ia ib e = absurd (omega (arith, e))
  apart Length (Slot u k) ia ib e = absurd (omega (arith, e, slot_most n u k (omega (arith, ib))))
  apart Length (Result u) ia ib e = absurd (omega (arith, e, slot_most n u n top))
  apart Length Kind ia ib e = absurd (omega (arith, e))
  apart Length Offset ia ib e = absurd (omega (arith, e))
  apart Length Length ia ib e = refl

  pub behind : (a : AddedLocal) → IsAdded plan a → length plan.locals ≤ number plan a
  behind (Slot t h) i = omega arith
  behind (Result t) i = omega arith
  behind Kind i = omega arith
  behind Offset i = omega arith
  behind Length i = omega arith

  pub counted : (a : AddedLocal) → IsAdded plan a → number plan a < length plan.locals + (2 * plan.slots + 5)
  counted (Slot t h) i = omega (arith, slot_most n t h (omega (arith, i)))
  counted (Result t) i = omega (arith, slot_most n t n top)
  counted Kind i = omega arith
  counted Offset i = omega arith
  counted Length i = omega arith
