-- How the pieces of a guard are put together.
use Rattle.std.proofs.Common.{◌≡◌, ℕ, suc, ◌+◌, ◌-◌, List, [], ◌∷◌, length, slice_get, Some, None, Bool, true, false, ◌==◌, refl, ◌∙◌, subst, arith}
use Rattle.std.proofs.lemmas.Bool.{eqb-true}
use Rattle.wasm_syntax.specs.declared.value.ValType.{ValType}
use Rattle.wasm_syntax.specs.declared.value.Value.{Value}
use Rattle.wasm_syntax.specs.declared.instruction.Basic.{Basic}
use Rattle.wasm_syntax.specs.declared.instruction.Basic.TheVariants.{MemoryCopy}
use Rattle.wasm_syntax.specs.Tree.{stop, choose}
use Rattle.rewrite_bodies.specs.calls.Slots.{Place, Ctx}
use Rattle.rewrite_bodies.specs.calls.Pieces.{const, fetch}
use Rattle.rewrite_bodies.specs.calls.Guards.{guard, guard_zero, guard_copy, beyond_word, range_test, kind}
use Rattle.rewrite_bodies.specs.calls.Rewrite.{unwind_kind, tested}
use Rattle.rewrite_code.specs.calls.Writing.{Written, Emits, EmitsLast, Opens, Closes}
use Rattle.rewrite_code.proofs.Pieces.{emits_last, emits_within}
use Rattle.rewrite_code.proofs.Loads.{emits_same}

pub const_at : {v w : Value} {a b : Written} → v ≡ w → Emits (const v) a b → Emits (const w) a b
const_at {a = a} {b = b} e p = subst (λ v. Emits (const v) a b) e p

pub next_fetch : (C : Ctx) (p : Place) (h : ℕ) {y : ℕ} {a b : Written} → y ≡ h + 1 → Emits (fetch C p y) a b → Emits (fetch C p (suc h)) a b
next_fetch C p h {y} {a} {b} e q =
    let same : y ≡ suc h = omega (arith, e) in
    subst (λ n. Emits (fetch C p n) a b) same q

pub next_zero : (C : Ctx) (t : ValType) (p : Place) (h : ℕ) {y : ℕ} {a b : Written} → y ≡ h + 1 → Emits (guard_zero C t p y) a b → Emits (guard_zero C t p (suc h)) a b
next_zero C t p h {y} {a} {b} e q =
    let same : y ≡ suc h = omega (arith, e) in
    subst (λ n. Emits (guard_zero C t p n) a b) same q

-- where the guard has left 1, the code unwinds with the kind
pub kind_tested : (C : Ctx) (l : ℕ) (es : List Place) (o : ℕ) (i : Basic) {a b c d e : Written} → Opens (λ arm k. choose 0 None arm None stop 0 k) a b → Emits (kind C i es) b c → EmitsLast (unwind_kind C l es o) c d → Closes d e →
    Emits (tested C l es o (kind C i es)) a e
kind_tested C l es o i op p u cl = emits_within op (emits_last p u) cl

-- another number of bytes than four
pub some_beyond : (n : ℕ) {a b : Written} → (n ≡ 4 → ⊥) → Emits (beyond_word false n) a b → Emits (beyond_word (n == 4) n) a b
some_beyond n {a} {b} other p = by_test (n == 4) refl
  where
    by_test : (q : Bool) → (n == 4) ≡ q → Emits (beyond_word q n) a b
    by_test true e = absurd (other (eqb-true n 4 e))
    by_test false e = p

-- a test of a range whose heights are these
pub range_at : (C : Ctx) (p n : Place) {x y x' y' : ℕ} {a b : Written} → x ≡ x' → y ≡ y' → Emits (range_test C p x n y) a b → Emits (range_test C p x' n y') a b
range_at C p n {x} {y} {x'} {y'} {a} {b} e d q =
    subst (λ h. Emits (range_test C p x' n h) a b) d (subst (λ h. Emits (range_test C p h n y) a b) e q)

-- that of `memory.copy`, on the three topmost operands
pub copied : (C : Ctx) (es : List Place) (n from to : Place) (h : ℕ) {a b : Written} → Some n ≡ slice_get es 0 → Some from ≡ slice_get es 1 → Some to ≡ slice_get es 2 → h ≡ length es - 3 →
    Emits (guard_copy C n from to h) a b → Emits (guard C MemoryCopy es) a b
copied C [] n from to h one two three e q = absurd (cc)
copied C (x ∷ []) n from to h one two three e q = absurd (cc)
copied C (x ∷ y ∷ []) n from to h one two three e q = absurd (cc)
copied C (x ∷ y ∷ z ∷ es) n from to h {a} {b} one two three e q =
    let height : h ≡ length es = e ∙ omega arith in
    let on_length : Emits (guard_copy C x from to h) a b = subst (λ p. Emits (guard_copy C p from to h) a b) (same one) q in
    let on_from : Emits (guard_copy C x y to h) a b = subst (λ p. Emits (guard_copy C x p to h) a b) (same two) on_length in
    let on_all : Emits (guard_copy C x y z h) a b = subst (λ p. Emits (guard_copy C x y p h) a b) (same three) on_from in
    emits_same (λ k. refl) (subst (λ g. Emits (guard_copy C x y z g) a b) height on_all)
  where
    same : {p q : Place} → Some p ≡ Some q → p ≡ q
    same e = cc
