-- The guards.
use Rattle.std.proofs.Common.{slice_get, ◌≡◌, ℕ, zero, suc, ◌+◌, ◌-◌, ◌/◌, ◌%◌, ◌^◌, ◌<◌, ◌≤◌, ◌==◌, List, [], ◌∷◌, ◌++◌, length, Option, Some, None, Bool, true, false, ◌&&◌, nat_lt, nat_le, refl, sym, ap, ◌∙◌, subst, arith, inl, inr, ◌≢◌, if◌then◌else◌, lt-ltb, le-ltb, take, drop, replicate, Ok, Err, leb-true, length-drop, length-take-le, not, int_div, int_rem, int_lt, ◌⊎◌, pos, negsuc, ap₂, true≢false}
use Rattle.wasm_syntax.specs.declared.value.ValType.{ValType}
use Rattle.wasm_syntax.specs.declared.value.ValType.TheVariants.{I32, I64}
use Rattle.wasm_syntax.specs.declared.value.Value.{Value}
use Rattle.wasm_syntax.specs.declared.value.Value.TheVariants as values
use Rattle.wasm_syntax.specs.declared.instruction.Basic.{Basic}
use Rattle.wasm_syntax.specs.declared.instruction.Basic.TheVariants.{Select, Load, Store, Eqz, Compare, Binary, Convert, MemoryCopy, MemoryFill}
use Rattle.wasm_syntax.specs.Numbers.{bits, value, number, modulo, bool_number, binary}
use Rattle.wasm_syntax.specs.Tree.{Nodes, basic}
use Rattle.wasm_syntax.specs.Host.{World}
use Rattle.wasm_syntax.specs.declared.host.CollectorCall.{CollectorCall}
use Rattle.wasm_syntax.specs.Effect.{Effect, gives, unfit, effect, takes, with_memory, address}
use Rattle.wasm_syntax.specs.Machine.{Engine, next, parts, cut}
use Rattle.rewrite_bodies.specs.calls.Slots.{Place, Ctx, length_at}
use Rattle.rewrite_bodies.specs.calls.Pieces.{const, fetch}
use Rattle.rewrite_bodies.specs.calls.Guards.{less_word, get_length, beyond_word, least, minus_one, guard_zero, overflow_test, guard_signed, out_test, guard_memory, guard, divides, can_trap, past_end, range_test, guard_copy, guard_fill, kind_signed, kind}
use Rattle.linear_memory.specs.Memory.{Memory, to_bytes}
use Rattle.wasm_syntax.specs.Access.{load_type, load_bits, store_type, store_bits}
use Rattle.linear_memory.specs.Memory as memories
use Rattle.wasm_syntax.specs.Access as accesses
use Rattle.wasm_syntax.specs.Effect as effects
use Rattle.int_ops.specs.declared.operators.ArithTrap.TheVariants.{DivideByZero, Overflow}
use Rattle.int_ops.specs.declared.operators.Binary.{Binary as BinaryOp}
use Rattle.int_ops.specs.declared.operators.Binary.TheVariants.{Add, Sub, Mul, DivS, DivU, RemS, RemU, And, Or, Xor, Shl, ShrS, ShrU, Rotl, Rotr}
use Rattle.std.proofs.lemmas.List.{length-replicate}
use Rattle.std.proofs.Math.Nat.{mod-lt, mod-eq_of_lt, add-mod_left}
use Rattle.rewrite_bodies.specs.calls.Agreement.{One, Holds, MemoryFits, told_length, TellsLength}
use Rattle.rewrite_bodies.specs.calls.Steps.{To, Shell, st}
use Rattle.rewrite_bodies.proofs.Run.{still, one_step, seq, weaken, push_to, added_get, fetch_to}
use Rattle.std.proofs.lemmas.Bool.Decides.{leb_tells}
use Rattle.std.proofs.lemmas.Bool.{cases_lt, eqb-true}
use Rattle.int_ops.specs.declared.operators.Compare.TheVariants.{Eq, GtU, GtS}
use Rattle.wasm_syntax.specs.declared.instruction.Convert.TheVariants.{ExtendU}
use Rattle.wasm_syntax.specs.declared.instruction.Load.{Load as Load_}
use Rattle.wasm_syntax.specs.declared.instruction.Load.TheVariants as loads
use Rattle.wasm_syntax.specs.declared.instruction.Store.{Store as Store_}
use Rattle.wasm_syntax.specs.declared.instruction.Store.TheVariants as stores
use Rattle.int_ops.specs.declared.operators.Narrow32.TheVariants as narrow32
use Rattle.int_ops.specs.declared.operators.Narrow64.TheVariants as narrow64
use Rattle.rewrite_bodies.specs.inner.Promises.{kind_of, verdict}
use Rattle.int_ops.specs.Integers as integers
use Rattle.int_ops.specs.Integers.{binary as int_binary, compare as int_compare, div_s, rem_s}
use Rattle.rewrite_bodies.specs.calls.Offsets.{SmallOffset}
use Rattle.wasm_syntax.specs.calls.Classes.{Risky, risky_binary, risky_load, risky_store, risky_copy, risky_fill}
use Rattle.rewrite_bodies.proofs.Risks.{risk_of}

-- the divisor is zero, and then 2, or else x
abbrev pub if_zero : Bool → ℕ → ℕ
if_zero true x = 2
if_zero false x = x

abbrev if_kind : Bool → ℕ → ℕ
if_kind true k = k
if_kind false k = 0

-- the access ends inside the memory, or the kind is 4
abbrev out_kind : Bool → ℕ
out_kind true = 0
out_kind false = 4

zero_verdict : (z : Bool) → bool_number z ≡ verdict (if_zero z 0)
zero_verdict true = refl
zero_verdict false = refl

out_verdict : (q : Bool) → bool_number (not q) ≡ verdict (out_kind q)
out_verdict true = refl
out_verdict false = refl

-- two numbers are there where something fits
two_of : (t u : ValType) (w v : Value) (go : ℕ → ℕ → Effect) → effects.on_two t u go (w ∷ v ∷ []) ≢ unfit → (n : ℕ) × (k : ℕ) × (number t w ≡ Some n) × (number u v ≡ Some k)
two_of t u w v go nw = first_ (number t w) refl
  where
    second_ : (n : ℕ) (o : Option ℕ) → number t w ≡ Some n → number u v ≡ o → (n : ℕ) × (k : ℕ) × (number t w ≡ Some n) × (number u v ≡ Some k)
    second_ n None e f = absurd (nw (rw (e, f) refl))
    second_ n (Some k) e f = (n, k, e, f)

    first_ : (o : Option ℕ) → number t w ≡ o → (n : ℕ) × (k : ℕ) × (number t w ≡ Some n) × (number u v ≡ Some k)
    first_ None e = absurd (nw (rw e refl))
    first_ (Some n) e = second_ n (number u v) e refl

number_value : (t : ValType) (n : ℕ) → number t (value t n) ≡ Some n
number_value I32 n = refl
number_value I64 n = refl

-- ---- numbers of 64 bits as signed ones

signed_low : (a : ℕ) → a < 2 ^ 63 → integers.signed 64 a ≡ pos a
signed_low a low = let t : nat_lt a (2 ^ 63) ≡ true = lt-ltb a (2 ^ 63) low in rw t refl

signed_high : (a : ℕ) → 2 ^ 63 ≤ a → a < 2 ^ 64 → integers.signed 64 a ≡ negsuc (2 ^ 64 - suc a)
signed_high a high low =
    let f : nat_lt a (2 ^ 63) ≡ false = le-ltb a (2 ^ 63) high in
    let t : nat_lt a (2 ^ 64) ≡ true = lt-ltb a (2 ^ 64) low in
    rw (f, t) refl

-- a length, and a number of bytes, as they are or four less
less_high : (n : ℕ) → 4 ≤ n → n < 2 ^ 32 + 64 + 1 → less_word n ≡ n - 4
less_high n le ln = ap (λ z. z % 2 ^ 64) (omega (arith, le)) ∙ add-mod_left (2 ^ 64) (n - 4) ∙ mod-eq_of_lt (omega (arith, ln))

less_low : (n : ℕ) → n < 4 → less_word n ≡ n + (2 ^ 64 - 4)
less_low n lt = mod-eq_of_lt (omega (arith, lt))

word_again : (s : ℕ) → s < 2 ^ 32 → modulo I64 (less_word s + 4) ≡ s
word_again s ls = by_size (cases_lt s 4)
  where
    by_size : (s < 4) ⊎ (4 ≤ s) → modulo I64 (less_word s + 4) ≡ s
    by_size (inl lt) = ap (λ z. modulo I64 (z + 4)) (less_low s lt) ∙ ap (λ z. z % 2 ^ 64) (omega (arith, lt)) ∙ add-mod_left (2 ^ 64) s ∙ mod-eq_of_lt (omega (arith, ls))
    by_size (inr le) = ap (λ z. modulo I64 (z + 4)) (less_high s le (omega (arith, ls))) ∙ ap (λ z. z % 2 ^ 64) (omega (arith, le)) ∙ mod-eq_of_lt (omega (arith, ls))

less_both : (s n : ℕ) → s < 2 ^ 32 → n < 2 ^ 32 + 64 + 1 → modulo I64 (less_word s + (2 ^ 64 - less_word n)) ≡ modulo I64 (s + (2 ^ 64 - n))
less_both s n ls ln = by_size (cases_lt s 4) (cases_lt n 4)
  where
    given : (a b : ℕ) → less_word s ≡ a → less_word n ≡ b → modulo I64 (a + (2 ^ 64 - b)) ≡ modulo I64 (s + (2 ^ 64 - n)) → modulo I64 (less_word s + (2 ^ 64 - less_word n)) ≡ modulo I64 (s + (2 ^ 64 - n))
    given a b e d h = ap₂ (λ x y. modulo I64 (x + (2 ^ 64 - y))) e d ∙ h

    by_size : (s < 4) ⊎ (4 ≤ s) → (n < 4) ⊎ (4 ≤ n) → modulo I64 (less_word s + (2 ^ 64 - less_word n)) ≡ modulo I64 (s + (2 ^ 64 - n))
    by_size (inl a) (inl b) = given (s + (2 ^ 64 - 4)) (n + (2 ^ 64 - 4)) (less_low s a) (less_low n b) (ap (λ z. z % 2 ^ 64) (omega (arith, a, b)))
    by_size (inl a) (inr b) = given (s + (2 ^ 64 - 4)) (n - 4) (less_low s a) (less_high n b ln) (ap (λ z. z % 2 ^ 64) (omega (arith, a, b, ln)) ∙ add-mod_left (2 ^ 64) (s + (2 ^ 64 - n)))
    by_size (inr a) (inl b) = given (s - 4) (n + (2 ^ 64 - 4)) (less_high s a (omega (arith, ls))) (less_low n b) (ap (λ z. z % 2 ^ 64) less ∙ sym (add-mod_left (2 ^ 64) (s - n)) ∙ ap (λ z. z % 2 ^ 64) more)
      where
        less : s - 4 + (2 ^ 64 - (n + (2 ^ 64 - 4))) ≡ s - n
        less = omega (arith, a, b)

        more : 2 ^ 64 + (s - n) ≡ s + (2 ^ 64 - n)
        more = omega (arith, a, b)
    by_size (inr a) (inr b) = given (s - 4) (n - 4) (less_high s a (omega (arith, ls))) (less_high n b ln) (ap (λ z. z % 2 ^ 64) (omega (arith, a, b, ln)))

-- an address is past the place from which n bytes end with the memory, where the n bytes from it on pass the end
passes_end : (a s n : ℕ) → a < 2 ^ 32 → s < 2 ^ 32 → n < 2 ^ 32 + 64 + 1 → int_lt (integers.signed 64 (integers.modulo 64 (s + (2 ^ 64 - n)))) (integers.signed 64 a) ≡ nat_lt s (a + n)
passes_end a s n la ls ln = by_place (cases_lt s n)
  where
    given : (d : ℕ) → integers.modulo 64 (s + (2 ^ 64 - n)) ≡ d → int_lt (integers.signed 64 d) (pos a) ≡ nat_lt s (a + n) → int_lt (integers.signed 64 (integers.modulo 64 (s + (2 ^ 64 - n)))) (integers.signed 64 a) ≡ nat_lt s (a + n)
    given d e h = ap₂ (λ x y. int_lt (integers.signed 64 x) y) e (signed_low a (omega (arith, la))) ∙ h

    by_place : (s < n) ⊎ (n ≤ s) → int_lt (integers.signed 64 (integers.modulo 64 (s + (2 ^ 64 - n)))) (integers.signed 64 a) ≡ nat_lt s (a + n)
    by_place (inr le) =
        let d = s - n in
        let e : integers.modulo 64 (s + (2 ^ 64 - n)) ≡ d = ap (integers.modulo 64) (omega (arith, le, ls, ln)) ∙ add-mod_left (2 ^ 64) d ∙ mod-eq_of_lt (omega (arith, ls)) in
        given d e (ap (λ z. int_lt z (pos a)) (signed_low d (omega (arith, ls))) ∙ moved (cases_lt s (a + n)))
      where
        moved : (s < a + n) ⊎ (a + n ≤ s) → nat_lt (s - n) a ≡ nat_lt s (a + n)
        moved (inr h) = le-ltb (s - n) a (omega (arith, h)) ∙ sym (le-ltb s (a + n) h)
        moved (inl h) = lt-ltb (s - n) a (omega (arith, h, le)) ∙ sym (lt-ltb s (a + n) h)
    by_place (inl lt) =
        let d = s + (2 ^ 64 - n) in
        let e : integers.modulo 64 d ≡ d = mod-eq_of_lt (omega (arith, lt, ln)) in
        given d e (ap (λ z. int_lt z (pos a)) (signed_high d (omega (arith, ln)) (omega (arith, lt, ln))) ∙ sym (lt-ltb s (a + n) (omega (arith, lt))))

module _ (M : Engine) (C : Ctx) (l : List Value) (size : length C.locals ≡ length l) (sb : List Value) where
  module _ (X : Shell) (g : World) (co : List CollectorCall) (tl : List Value) where
    -- the topmost number is tested
    eqz_to : (t : ValType) (v : Value) (n : ℕ) (q : Bool) (s : List Value) (k : Nodes) → number t v ≡ Some n → (n == 0) ≡ q → To M 1 1 (st X tl (v ∷ s) (basic 0 (Eqz t) k) g co) (st X tl (values.I32 (bool_number q) ∷ s) k g co)
    eqz_to t v n q s k e d = one_step M (st X tl (v ∷ s) (basic 0 (Eqz t) k) g co) _ (rw (e, d) refl)

    -- a number against a constant
    eq_to : (t : ValType) (v : Value) (n c : ℕ) (q : Bool) (s : List Value) (k : Nodes) → number t v ≡ Some n → (n == c) ≡ q → To M 2 2 (st X tl (v ∷ s) (const (value t c) (basic 0 (Compare t Eq) k)) g co) (st X tl (values.I32 (bool_number q) ∷ s) k g co)
    unfolding int_compare
    eq_to t v n c q s k e d = seq M (push_to M (value t c)) (one_step M (st X tl (value t c ∷ v ∷ s) (basic 0 (Compare t Eq) k) g co) _ (rw (number_value, e, d) refl))

    and_to : (p q : Bool) (s : List Value) (k : Nodes) → To M 1 1 (st X tl (values.I32 (bool_number q) ∷ values.I32 (bool_number p) ∷ s) (basic 0 (Binary I32 And) k) g co) (st X tl (values.I32 (bool_number (p && q)) ∷ s) k g co)
    unfolding int_binary
    and_to true true s k = one_step M _ _ refl
    and_to true false s k = one_step M _ _ refl
    and_to false true s k = one_step M _ _ refl
    and_to false false s k = one_step M _ _ refl

    -- the verdicts of both tests of a quotient
    or_to : (p z : Bool) (s : List Value) (k : Nodes) → To M 1 1 (st X tl (values.I32 (bool_number z) ∷ values.I32 (bool_number p) ∷ s) (basic 0 (Binary I32 Or) k) g co) (st X tl (values.I32 (verdict (if_zero z (if_kind p 3))) ∷ s) k g co)
    unfolding int_binary
    or_to true true s k = one_step M _ _ refl
    or_to true false s k = one_step M _ _ refl
    or_to false true s k = one_step M _ _ refl
    or_to false false s k = one_step M _ _ refl

    -- 2, or 3 where the divisor is not zero
    two_or_three_to : (z : Bool) (k : Nodes) → To M 1 1 (st X tl (values.I32 (bool_number z) ∷ values.I32 3 ∷ values.I32 2 ∷ sb) (basic 0 Select k) g co) (st X tl (values.I32 (if_zero z 3) ∷ sb) k g co)
    two_or_three_to true k = one_step M _ _ refl
    two_or_three_to false k = one_step M _ _ refl

  -- the guard leaves 1 where there is a kind, and 0 where there is none; where there is one, the other piece leaves it
  abbrev Guards : Shell → Nodes → World → List CollectorCall → List Value → List Place → Basic → ℕ → Type 0
  Guards X k g co ex es i n =
      To M 1 21 (st X (l ++ ex) sb (guard C i es k) g co) (st X (l ++ ex) (values.I32 (verdict n) ∷ sb) k g co)
      × ((j : ℕ) → n ≡ suc j → To M 1 5 (st X (l ++ ex) sb (kind C i es k) g co) (st X (l ++ ex) (values.I32 (suc j) ∷ sb) k g co))

  -- a constant kind
  one_kind_to : (X : Shell) (k : Nodes) (g : World) (co : List CollectorCall) (tl : List Value) (c j : ℕ) → c ≡ suc j → To M 1 5 (st X tl sb (const (values.I32 c) k) g co) (st X tl (values.I32 (suc j) ∷ sb) k g co)
  one_kind_to X k g co tl c j e = subst (λ z. To M 1 5 (st X tl sb (const (values.I32 c) k) g co) (st X tl (values.I32 z ∷ sb) k g co)) e (weaken M (push_to M (values.I32 c)) (omega arith) (omega arith))

  two_is : (z : Bool) (j : ℕ) → if_zero z 0 ≡ suc j → 2 ≡ suc j
  two_is true j e = e
  two_is false j e = absurd (cc)

  four_is : (q : Bool) (j : ℕ) → out_kind q ≡ suc j → 4 ≡ suc j
  four_is true j e = absurd (cc)
  four_is false j e = e

  zero_to : (X : Shell) (k : Nodes) (g : World) (co : List CollectorCall) (ex s : List Value) (t : ValType) (e : Place) (h : ℕ) (v : Value) (n : ℕ) → One C l ex h e v → number t v ≡ Some n → To M 2 2 (st X (l ++ ex) s (guard_zero C t e h k) g co) (st X (l ++ ex) (values.I32 (bool_number (n == 0)) ∷ s) k g co)
  zero_to X k g co ex s t e h v n o d =
      let s1 : To M 1 1 (st X (l ++ ex) s (fetch C e h (basic 0 (Eqz t) k)) g co) (st X (l ++ ex) (v ∷ s) (basic 0 (Eqz t) k) g co) = fetch_to M C l size ex h e v o in
      seq M s1 (eqz_to X g co (l ++ ex) t v n (n == 0) s k d refl)

  guard_zero_to : (X : Shell) (k : Nodes) (g : World) (co : List CollectorCall) (ex : List Value) (t : ValType) (e : Place) (h : ℕ) (v : Value) (n : ℕ) → One C l ex h e v → number t v ≡ Some n →
      To M 1 21 (st X (l ++ ex) sb (guard_zero C t e h k) g co) (st X (l ++ ex) (values.I32 (verdict (if_zero (n == 0) 0)) ∷ sb) k g co)
      × ((j : ℕ) → if_zero (n == 0) 0 ≡ suc j → To M 1 5 (st X (l ++ ex) sb (const (values.I32 2) k) g co) (st X (l ++ ex) (values.I32 (suc j) ∷ sb) k g co))
  guard_zero_to X k g co ex t e h v n o d = (
    subst (λ b. To M 1 21 (st X (l ++ ex) sb (guard_zero C t e h k) g co) (st X (l ++ ex) (values.I32 b ∷ sb) k g co)) (zero_verdict (n == 0)) (weaken M (zero_to X k g co ex sb t e h v n o d) (omega arith) (omega arith)),
    λ j q. one_kind_to X k g co (l ++ ex) 2 j (two_is (n == 0) j q),
  )

  signed_kind : (x : ℕ) (p z : Bool) (f : ℕ → Effect) → ((x : ℕ) → kind_of (f x) ≡ 0) → kind_of (effects.divides (if z then Err DivideByZero else (if p then Err Overflow else Ok x)) f) ≡ if_zero z (if_kind p 3)
  signed_kind x p true f h = refl
  signed_kind x true false f h = refl
  signed_kind x false false f h = h x

  -- the kind of a trap of a quotient
  signed_kind_to : (X : Shell) (k : Nodes) (g : World) (co : List CollectorCall) (ex : List Value) (t : ValType) (e : Place) (h : ℕ) (w : Value) (n : ℕ) → One C l ex h e w → number t w ≡ Some n → To M 5 5 (st X (l ++ ex) sb (kind_signed C t e h k) g co) (st X (l ++ ex) (values.I32 (if_zero (n == 0) 3) ∷ sb) k g co)
  signed_kind_to X k g co ex t e h w n o d =
      let t0 : To M 2 2 (st X (l ++ ex) sb (kind_signed C t e h k) g co) (st X (l ++ ex) (values.I32 3 ∷ values.I32 2 ∷ sb) (guard_zero C t e h (basic 0 Select k)) g co) = seq M (push_to M (values.I32 2)) (push_to M (values.I32 3)) in
      seq M t0 (seq M (zero_to X (basic 0 Select k) g co ex (values.I32 3 ∷ values.I32 2 ∷ sb) t e h w n o d) (two_or_three_to X g co (l ++ ex) (n == 0) k))

  three_is : (z p : Bool) (j : ℕ) → if_zero z (if_kind p 3) ≡ suc j → if_zero z 3 ≡ suc j
  three_is true p j e = e
  three_is false true j e = e
  three_is false false j e = absurd (cc)

  guard_signed_to : (X : Shell) (k : Nodes) (g : World) (co : List CollectorCall) (ex : List Value) (t : ValType) (e e' : Place) (h : ℕ) (w v : Value) (n a : ℕ) → One C l ex (suc h) e w → One C l ex h e' v → number t w ≡ Some n → number t v ≡ Some a →
      To M 1 21 (st X (l ++ ex) sb (guard_signed C t e e' h k) g co) (st X (l ++ ex) (values.I32 (verdict (if_zero (n == 0) (if_kind ((a == 2 ^ (bits t - 1)) && (n == 2 ^ bits t - 1)) 3))) ∷ sb) k g co)
      × ((j : ℕ) → if_zero (n == 0) (if_kind ((a == 2 ^ (bits t - 1)) && (n == 2 ^ bits t - 1)) 3) ≡ suc j → To M 1 5 (st X (l ++ ex) sb (kind_signed C t e (suc h) k) g co) (st X (l ++ ex) (values.I32 (suc j) ∷ sb) k g co))
  guard_signed_to X k g co ex t e e' h w v n a o o' d d' =
      let tl = l ++ ex in
      let p = a == 2 ^ (bits t - 1) in
      let q = n == 2 ^ bits t - 1 in
      let k7 = basic 0 (Binary I32 Or) k in
      let k6 = guard_zero C t e (suc h) k7 in
      let k5 = basic 0 (Binary I32 And) k6 in
      let k4 = fetch C e (suc h) (const (minus_one t) (basic 0 (Compare t Eq) k5)) in
      let s1 : To M 1 1 (st X tl sb (overflow_test C t e e' h k6) g co) (st X tl (v ∷ sb) (const (least t) (basic 0 (Compare t Eq) k4)) g co) = fetch_to M C l size ex h e' v o' in
      let s2 : To M 2 2 (st X tl (v ∷ sb) (const (least t) (basic 0 (Compare t Eq) k4)) g co) (st X tl (values.I32 (bool_number p) ∷ sb) k4 g co) = eq_to X g co tl t v a (2 ^ (bits t - 1)) p sb k4 d' refl in
      let s3 : To M 1 1 (st X tl (values.I32 (bool_number p) ∷ sb) k4 g co) (st X tl (w ∷ values.I32 (bool_number p) ∷ sb) (const (minus_one t) (basic 0 (Compare t Eq) k5)) g co) = fetch_to M C l size ex (suc h) e w o in
      let s4 : To M 2 2 (st X tl (w ∷ values.I32 (bool_number p) ∷ sb) (const (minus_one t) (basic 0 (Compare t Eq) k5)) g co) (st X tl (values.I32 (bool_number q) ∷ values.I32 (bool_number p) ∷ sb) k5 g co) = eq_to X g co tl t w n (2 ^ bits t - 1) q (values.I32 (bool_number p) ∷ sb) k5 d refl in
      let s5 : To M 1 1 (st X tl (values.I32 (bool_number q) ∷ values.I32 (bool_number p) ∷ sb) k5 g co) (st X tl (values.I32 (bool_number (p && q)) ∷ sb) k6 g co) = and_to X g co tl p q sb k6 in
      let s6 = zero_to X k7 g co ex (values.I32 (bool_number (p && q)) ∷ sb) t e (suc h) w n o d in
      let s7 = or_to X g co tl (p && q) (n == 0) sb k in
      let whole : To M 1 21 (st X tl sb (guard_signed C t e e' h k) g co) (st X tl (values.I32 (verdict (if_zero (n == 0) (if_kind (p && q) 3))) ∷ sb) k g co) = weaken M (seq M s1 (seq M s2 (seq M s3 (seq M s4 (seq M s5 (seq M s6 s7)))))) (omega arith) (omega arith) in
      (whole, λ j z. subst (λ b. To M 1 5 (st X tl sb (kind_signed C t e (suc h) k) g co) (st X tl (values.I32 b ∷ sb) k g co)) (three_is (n == 0) (p && q) j z) (weaken M (signed_kind_to X k g co ex t e (suc h) w n o d) (omega arith) (omega arith)))

  zero_kind : (n : ℕ) (z : Bool) (x : ℕ) (f : ℕ → Effect) → ((x : ℕ) → kind_of (f x) ≡ 0) → kind_of (effects.divides (if z then Err DivideByZero else Ok x) f) ≡ if_zero z 0
  zero_kind n true x f h = refl
  zero_kind n false x f h = h x

  guard_div : (X : Shell) (k : Nodes) (g gg : World) (co : List CollectorCall) (ex : List Value) (t : ValType) (op : BinaryOp) (e e' : Place) (w v : Value) (es : List Place) → divides op ≡ true → One C l ex (length (e' ∷ es)) e w → One C l ex (length es) e' v → effect (Binary t op) gg l (w ∷ v ∷ []) ≢ unfit → Guards X k g co ex (e ∷ e' ∷ es) (Binary t op) (kind_of (effect (Binary t op) gg l (w ∷ v ∷ [])))
  unfolding int_binary div_s rem_s
  guard_div X k g gg co ex t op e e' w v es dv o o' nw = numbers (two_of t t w v (λ b a. effects.divides (binary t op a b) (λ n. gives gg l (value t n ∷ []))) nw)
    where
      by_op : (op : BinaryOp) (n a : ℕ) → divides op ≡ true → number t w ≡ Some n → number t v ≡ Some a → Guards X k g co ex (e ∷ e' ∷ es) (Binary t op) (kind_of (effects.divides (binary t op a n) (λ n. gives gg l (value t n ∷ []))))
      by_op Add n a dv d d' = absurd (cc)
      by_op Sub n a dv d d' = absurd (cc)
      by_op Mul n a dv d d' = absurd (cc)
      by_op DivS n a dv d d' = rw (signed_kind (integers.unsigned (bits t) (int_div (integers.signed (bits t) a) (integers.signed (bits t) n))) ((a == 2 ^ (bits t - 1)) && (n == 2 ^ bits t - 1)) (n == 0) (λ n. gives gg l (value t n ∷ [])) (λ x. refl)) (guard_signed_to X k g co ex t e e' (length es) w v n a o o' d d')
      by_op DivU n a dv d d' = rw (zero_kind n (n == 0) (a / n) (λ n. gives gg l (value t n ∷ [])) (λ x. refl)) (guard_zero_to X k g co ex t e (suc (length es)) w n o d)
      by_op RemS n a dv d d' = rw (zero_kind n (n == 0) (integers.unsigned (bits t) (int_rem (integers.signed (bits t) a) (integers.signed (bits t) n))) (λ n. gives gg l (value t n ∷ [])) (λ x. refl)) (guard_zero_to X k g co ex t e (suc (length es)) w n o d)
      by_op RemU n a dv d d' = rw (zero_kind n (n == 0) (a % n) (λ n. gives gg l (value t n ∷ [])) (λ x. refl)) (guard_zero_to X k g co ex t e (suc (length es)) w n o d)
      by_op And n a dv d d' = absurd (cc)
      by_op Or n a dv d d' = absurd (cc)
      by_op Xor n a dv d d' = absurd (cc)
      by_op Shl n a dv d d' = absurd (cc)
      by_op ShrS n a dv d d' = absurd (cc)
      by_op ShrU n a dv d d' = absurd (cc)
      by_op Rotl n a dv d d' = absurd (cc)
      by_op Rotr n a dv d d' = absurd (cc)

      numbers : ((n : ℕ) × (a : ℕ) × (number t w ≡ Some n) × (number t v ≡ Some a)) → Guards X k g co ex (e ∷ e' ∷ es) (Binary t op) (kind_of (effect (Binary t op) gg l (w ∷ v ∷ [])))
      numbers x = rw (x.2, x.3) (by_op op x.0 x.1 dv x.2 x.3)

  -- ---- memory

  not_le : (a b c e : ℕ) (q : Bool) → e ≡ a + b → nat_le (a + b) c ≡ q → nat_lt c e ≡ not q
  not_le a b c e true y h = let z : a + b ≤ c = leb-true (a + b) c h in le-ltb c e (omega (arith, y, z))
  not_le a b c e false y h = lt-ltb c e (omega (arith, y, past (a + b) c h))
    where
      past : (m n : ℕ) → nat_le m n ≡ false → n < m
      past m n h = elim (leb_tells m n) [ inl t ↦ absurd (true≢false (sym t.0 ∙ h)) | inr f ↦ f.1 ]

  -- the local tells the length of this memory
  abbrev Told : List Value → Memory → Type 0
  Told ex m = slice_get ex (length_at C) ≡ Some (values.I64 (less_word (length m.bytes)))

  get_length_to : (X : Shell) (k : Nodes) (g : World) (m : Memory) (co : List CollectorCall) (ex base : List Value) → Told ex m → To M 1 1 (st X (l ++ ex) base (get_length C k) g co) (st X (l ++ ex) (values.I64 (less_word (length m.bytes)) ∷ base) k g co)
  get_length_to X k g m co ex base gm = added_get M C l size ex (length_at C) (values.I64 (less_word (length m.bytes))) gm

  -- a number against the length of the memory
  past_end_to : (X : Shell) (k : Nodes) (g : World) (m : Memory) (co : List CollectorCall) (ex base : List Value) (s : ℕ) → Told ex m → length m.bytes < 2 ^ 32 → To M 4 4 (st X (l ++ ex) (values.I64 s ∷ base) (past_end C k) g co) (st X (l ++ ex) (values.I32 (bool_number (nat_lt (length m.bytes) s)) ∷ base) k g co)
  unfolding int_binary int_compare
  past_end_to X k g m co ex base s gm few =
      let k7 = basic 0 (Compare I64 GtU) k in
      let k6 = const (values.I64 4) (basic 0 (Binary I64 Add) k7) in
      let less = less_word (length m.bytes) in
      let again = modulo I64 (less + 4) in
      let s4 : To M 2 2 (st X (l ++ ex) (values.I64 less ∷ values.I64 s ∷ base) k6 g co) (st X (l ++ ex) (values.I64 again ∷ values.I64 s ∷ base) k7 g co) = seq M (push_to M (values.I64 4)) (one_step M _ _ refl) in
      let s5 : To M 1 1 (st X (l ++ ex) (values.I64 (length m.bytes) ∷ values.I64 s ∷ base) k7 g co) (st X (l ++ ex) (values.I32 (bool_number (nat_lt (length m.bytes) s)) ∷ base) k g co) = one_step M _ _ refl in
      let s6 : To M 2 2 (st X (l ++ ex) (values.I64 less ∷ values.I64 s ∷ base) k6 g co) (st X (l ++ ex) (values.I64 (length m.bytes) ∷ values.I64 s ∷ base) k7 g co) = subst (λ z. To M 2 2 (st X (l ++ ex) (values.I64 less ∷ values.I64 s ∷ base) k6 g co) (st X (l ++ ex) (values.I64 z ∷ values.I64 s ∷ base) k7 g co)) (word_again (length m.bytes) few) s4 in
      seq M (get_length_to X k6 g m co ex (values.I64 s ∷ base) gm) (seq M s6 s5)

  -- the place from which so many bytes end with the memory
  beyond_to : (X : Shell) (k : Nodes) (g : World) (m : Memory) (co : List CollectorCall) (tl base : List Value) (n : ℕ) (q : Bool) → (n == 4) ≡ q → length m.bytes < 2 ^ 32 → n < 2 ^ 32 + 64 + 1 → To M 0 2 (st X tl (values.I64 (less_word (length m.bytes)) ∷ base) (beyond_word q n k) g co) (st X tl (values.I64 (modulo I64 (length m.bytes + (2 ^ 64 - n))) ∷ base) k g co)
  unfolding int_binary
  beyond_to X k g m co tl base n true e few lt =
      let four : n ≡ 4 = eqb-true n 4 e in
      subst (λ z. To M 0 2 (st X tl (values.I64 (less_word (length m.bytes)) ∷ base) k g co) (st X tl (values.I64 (modulo I64 (length m.bytes + (2 ^ 64 - z))) ∷ base) k g co)) (sym four) (weaken M (still M _) (omega arith) (omega arith))
  beyond_to X k g m co tl base n false e few lt =
      let less = less_word (length m.bytes) in
      let to : To M 2 2 (st X tl (values.I64 less ∷ base) (beyond_word false n k) g co) (st X tl (values.I64 (modulo I64 (less + (2 ^ 64 - less_word n))) ∷ base) k g co) = seq M (push_to M (values.I64 (less_word n))) (one_step M _ _ refl) in
      subst (λ z. To M 0 2 (st X tl (values.I64 less ∷ base) (beyond_word false n k) g co) (st X tl (values.I64 z ∷ base) k g co)) (less_both (length m.bytes) n few lt) (weaken M to (omega arith) (omega arith))

  guard_memory_to : (X : Shell) (k : Nodes) (g : World) (m : Memory) (co : List CollectorCall) (ex : List Value) (e : Place) (h x n o b : ℕ) (q : Bool) → One C l ex h e (values.I32 x) → Told ex m → MemoryFits (Some m) → o < 2 ^ 32 → b ≤ 64 → n ≡ o + b → nat_le (address x o + b) (length m.bytes) ≡ q →
      To M 1 21 (st X (l ++ ex) sb (guard_memory C e h n k) g co) (st X (l ++ ex) (values.I32 (verdict (out_kind q)) ∷ sb) k g co)
      × ((j : ℕ) → out_kind q ≡ suc j → To M 1 5 (st X (l ++ ex) sb (const (values.I32 4) k) g co) (st X (l ++ ex) (values.I32 (suc j) ∷ sb) k g co))
  unfolding int_binary int_compare
  guard_memory_to X k g m co ex e h x n o b q on gm mf lo lb ne inside_ =
      let tl = l ++ ex in
      let x' = modulo I32 x in
      let lt : n < 2 ^ 32 + 64 + 1 = omega (arith, lo, lb, ne) in
      let low : x' < 2 ^ 32 = mod-lt x (omega arith) in
      let len : length m.bytes < 2 ^ 32 = omega (arith, mf.1, mf.2) in
      let k5 = basic 0 (Compare I64 GtS) k in
      let k4 = beyond_word (n == 4) n k5 in
      let k3 = get_length C k4 in
      let from = modulo I64 (length m.bytes + (2 ^ 64 - n)) in
      let s1 : To M 1 1 (st X tl sb (fetch C e h (out_test C n k)) g co) (st X tl (values.I32 x ∷ sb) (out_test C n k) g co) = fetch_to M C l size ex h e (values.I32 x) on in
      let s2 : To M 1 1 (st X tl (values.I32 x ∷ sb) (out_test C n k) g co) (st X tl (values.I64 x' ∷ sb) k3 g co) = one_step M _ _ refl in
      let s3 : To M 1 1 (st X tl (values.I64 x' ∷ sb) k3 g co) (st X tl (values.I64 (less_word (length m.bytes)) ∷ values.I64 x' ∷ sb) k4 g co) = get_length_to X k4 g m co ex (values.I64 x' ∷ sb) gm in
      let s4 : To M 0 2 (st X tl (values.I64 (less_word (length m.bytes)) ∷ values.I64 x' ∷ sb) k4 g co) (st X tl (values.I64 from ∷ values.I64 x' ∷ sb) k5 g co) = beyond_to X k5 g m co tl (values.I64 x' ∷ sb) n (n == 4) refl len lt in
      let passes : int_lt (integers.signed 64 from) (integers.signed 64 x') ≡ nat_lt (length m.bytes) (x' + n) = passes_end x' (length m.bytes) n low len lt in
      let cmp : bool_number (int_lt (integers.signed 64 from) (integers.signed 64 x')) ≡ verdict (out_kind q) = ap bool_number (passes ∙ not_le (address x o) b (length m.bytes) (x' + n) q (omega (arith, ne)) inside_) ∙ out_verdict q in
      let s5 : To M 1 1 (st X tl (values.I64 from ∷ values.I64 x' ∷ sb) k5 g co) (st X tl (values.I32 (bool_number (int_lt (integers.signed 64 from) (integers.signed 64 x'))) ∷ sb) k g co) = one_step M _ _ refl in
      let s6 : To M 1 1 (st X tl (values.I64 from ∷ values.I64 x' ∷ sb) k5 g co) (st X tl (values.I32 (verdict (out_kind q)) ∷ sb) k g co) = subst (λ z. To M 1 1 (st X tl (values.I64 from ∷ values.I64 x' ∷ sb) k5 g co) (st X tl (values.I32 z ∷ sb) k g co)) cmp s5 in
      (weaken M (seq M s1 (seq M s2 (seq M s3 (seq M s4 s6)))) (omega arith) (omega arith), λ j z. one_kind_to X k g co tl 4 j (four_is q j z))

  -- a range of bytes against the length of the memory
  range_to : (X : Shell) (k : Nodes) (g : World) (m : Memory) (co : List CollectorCall) (ex base : List Value) (a n : Place) (h hn x y : ℕ) → One C l ex h a (values.I32 x) → One C l ex hn n (values.I32 y) → Told ex m → length m.bytes < 2 ^ 32 → To M 9 9 (st X (l ++ ex) base (range_test C a h n hn k) g co) (st X (l ++ ex) (values.I32 (bool_number (not (nat_le (modulo I32 x + modulo I32 y) (length m.bytes)))) ∷ base) k g co)
  unfolding int_binary
  range_to X k g m co ex base a n h hn x y oa on gm few =
      let tl = l ++ ex in
      let x' = modulo I32 x in
      let y' = modulo I32 y in
      let sum : modulo I64 (x' + y') ≡ x' + y' = (let u : x % 2 ^ 32 < 2 ^ 32 = mod-lt x (omega arith) in let v : y % 2 ^ 32 < 2 ^ 32 = mod-lt y (omega arith) in mod-eq_of_lt (omega (arith, u, v))) in
      let sum64 = modulo I64 (x' + y') in
      let k4 = past_end C k in
      let k3 = basic 0 (Binary I64 Add) k4 in
      let k2 = basic 0 (Convert ExtendU) k3 in
      let k1 = fetch C n hn k2 in
      let k0 = basic 0 (Convert ExtendU) k1 in
      let t0 : To M 1 1 (st X tl base (fetch C a h k0) g co) (st X tl (values.I32 x ∷ base) k0 g co) = fetch_to M C l size ex h a (values.I32 x) oa in
      let s1 : To M 1 1 (st X tl (values.I32 x ∷ base) k0 g co) (st X tl (values.I64 x' ∷ base) k1 g co) = one_step M _ _ refl in
      let s2 : To M 1 1 (st X tl (values.I64 x' ∷ base) (fetch C n hn k2) g co) (st X tl (values.I32 y ∷ values.I64 x' ∷ base) k2 g co) = fetch_to M C l size ex hn n (values.I32 y) on in
      let s3 : To M 2 2 (st X tl (values.I32 y ∷ values.I64 x' ∷ base) k2 g co) (st X tl (values.I64 sum64 ∷ base) k4 g co) = seq M (one_step M _ (next (st X tl (values.I64 y' ∷ values.I64 x' ∷ base) k3 g co)) refl) (one_step M _ _ refl) in
      let q = nat_le (x' + y') (length m.bytes) in
      let cmp : nat_lt (length m.bytes) sum64 ≡ not q = not_le x' y' (length m.bytes) sum64 q sum refl in
      let s4 : To M 4 4 (st X tl (values.I64 sum64 ∷ base) k4 g co) (st X tl (values.I32 (bool_number (not q)) ∷ base) k g co) = subst (λ z. To M 4 4 (st X tl (values.I64 sum64 ∷ base) k4 g co) (st X tl (values.I32 (bool_number z) ∷ base) k g co)) cmp (past_end_to X k g m co ex base sum64 gm few) in
      seq M t0 (seq M s1 (seq M s2 (seq M s3 s4)))

  either_to : (X : Shell) (k : Nodes) (g : World) (co : List CollectorCall) (tl : List Value) (p q : Bool) → To M 1 1 (st X tl (values.I32 (bool_number (not q)) ∷ values.I32 (bool_number (not p)) ∷ sb) (basic 0 (Binary I32 Or) k) g co) (st X tl (values.I32 (verdict (out_kind (p && q))) ∷ sb) k g co)
  unfolding int_binary
  either_to X k g co tl true true = one_step M _ _ refl
  either_to X k g co tl true false = one_step M _ _ refl
  either_to X k g co tl false true = one_step M _ _ refl
  either_to X k g co tl false false = one_step M _ _ refl

  guard_copy_to : (X : Shell) (k : Nodes) (g : World) (m : Memory) (co : List CollectorCall) (ex : List Value) (n from to : Place) (h x y z : ℕ) → One C l ex (suc (suc h)) n (values.I32 z) → One C l ex (suc h) from (values.I32 x) → One C l ex h to (values.I32 y) → Told ex m → MemoryFits (Some m) →
      To M 1 21 (st X (l ++ ex) sb (guard_copy C n from to h k) g co) (st X (l ++ ex) (values.I32 (verdict (out_kind (nat_le (modulo I32 x + modulo I32 z) (length m.bytes) && nat_le (modulo I32 y + modulo I32 z) (length m.bytes)))) ∷ sb) k g co)
      × ((j : ℕ) → out_kind (nat_le (modulo I32 x + modulo I32 z) (length m.bytes) && nat_le (modulo I32 y + modulo I32 z) (length m.bytes)) ≡ suc j → To M 1 5 (st X (l ++ ex) sb (const (values.I32 4) k) g co) (st X (l ++ ex) (values.I32 (suc j) ∷ sb) k g co))
  guard_copy_to X k g m co ex n from to h x y z on of ot gm mf =
      let tl = l ++ ex in
      let p = nat_le (modulo I32 x + modulo I32 z) (length m.bytes) in
      let q = nat_le (modulo I32 y + modulo I32 z) (length m.bytes) in
      let k2 = basic 0 (Binary I32 Or) k in
      let k1 = range_test C to h n (suc (suc h)) k2 in
      let few : length m.bytes < 2 ^ 32 = omega (arith, mf.1, mf.2) in
      let s1 = range_to X k1 g m co ex sb from n (suc h) (suc (suc h)) x z of on gm few in
      let s2 = range_to X k2 g m co ex (values.I32 (bool_number (not p)) ∷ sb) to n h (suc (suc h)) y z ot on gm few in
      (weaken M (seq M s1 (seq M s2 (either_to X k g co tl p q))) (omega arith) (omega arith), λ j z. one_kind_to X k g co tl 4 j (four_is (p && q) j z))

  guard_fill_to : (X : Shell) (k : Nodes) (g : World) (m : Memory) (co : List CollectorCall) (ex : List Value) (n to : Place) (h y z : ℕ) → One C l ex (suc (suc h)) n (values.I32 z) → One C l ex h to (values.I32 y) → Told ex m → MemoryFits (Some m) →
      To M 1 21 (st X (l ++ ex) sb (guard_fill C n to h k) g co) (st X (l ++ ex) (values.I32 (verdict (out_kind (nat_le (modulo I32 y + modulo I32 z) (length m.bytes)))) ∷ sb) k g co)
      × ((j : ℕ) → out_kind (nat_le (modulo I32 y + modulo I32 z) (length m.bytes)) ≡ suc j → To M 1 5 (st X (l ++ ex) sb (const (values.I32 4) k) g co) (st X (l ++ ex) (values.I32 (suc j) ∷ sb) k g co))
  guard_fill_to X k g m co ex n to h y z on ot gm mf =
      let q = nat_le (modulo I32 y + modulo I32 z) (length m.bytes) in
      let s1 = range_to X k g m co ex sb to n h (suc (suc h)) y z ot on gm (omega (arith, mf.1, mf.2)) in
      (subst (λ b. To M 1 21 (st X (l ++ ex) sb (guard_fill C n to h k) g co) (st X (l ++ ex) (values.I32 b ∷ sb) k g co)) (out_verdict q) (weaken M s1 (omega arith) (omega arith)), λ j z. one_kind_to X k g co (l ++ ex) 4 j (four_is q j z))

  load_kind : (m : Memory) (at b : ℕ) (f : ℕ → Effect) (q : Bool) → ((x : ℕ) → kind_of (f x) ≡ 0) → kind_of (effects.in_bounds (if q then Some (memories.from_bytes (take b (drop at m.bytes))) else None) f) ≡ out_kind q
  load_kind m at b f true h = h _
  load_kind m at b f false h = refl

  put_kind : (m : Memory) (at : ℕ) (new : List ℕ) (f : Memory → Effect) (q : Bool) → ((x : Memory) → kind_of (f x) ≡ 0) → kind_of (effects.in_bounds (if q then Some (record m { bytes = memories.splice m.bytes at new }) else None) f) ≡ out_kind q
  put_kind m at new f true h = h _
  put_kind m at new f false h = refl

  length-to_bytes : (n v : ℕ) → length (to_bytes n v) ≡ n
  length-to_bytes zero v = refl
  length-to_bytes (suc n) v = ap suc (length-to_bytes n (v / 256))

  load_small : (t : Load_) → load_bits t / 8 ≤ 64
  load_small (loads.Full I32) = omega arith
  load_small (loads.Full I64) = omega arith
  load_small (loads.Part32 narrow32.Eight s) = omega arith
  load_small (loads.Part32 narrow32.Sixteen s) = omega arith
  load_small (loads.Part64 narrow64.Eight s) = omega arith
  load_small (loads.Part64 narrow64.Sixteen s) = omega arith
  load_small (loads.Part64 narrow64.ThirtyTwo s) = omega arith

  store_small : (t : Store_) → store_bits t / 8 ≤ 64
  store_small (stores.Full I32) = omega arith
  store_small (stores.Full I64) = omega arith
  store_small (stores.Part32 narrow32.Eight) = omega arith
  store_small (stores.Part32 narrow32.Sixteen) = omega arith
  store_small (stores.Part64 narrow64.Eight) = omega arith
  store_small (stores.Part64 narrow64.Sixteen) = omega arith
  store_small (stores.Part64 narrow64.ThirtyTwo) = omega arith

  guard_load : (X : Shell) (k : Nodes) (g gg : World) (co : List CollectorCall) (ex : List Value) (t : Load_) (align o : ℕ) (e : Place) (v : Value) (es : List Place) → TellsLength C ex gg.memory → MemoryFits gg.memory → o < 2 ^ 32 → One C l ex (length es) e v → effect (Load t align o) gg l (v ∷ []) ≢ unfit → Guards X k g co ex (e ∷ es) (Load t align o) (kind_of (effect (Load t align o) gg l (v ∷ [])))
  guard_load X k g gg co ex t align o e (values.I64 x) es gm mf lo on nw = absurd (nw refl)
  guard_load X k g gg co ex t align o e (values.I32 x) es gm mf lo on nw = by_memory gg.memory nw refl
    where
      by_memory : (r : Option Memory) → effects.with_some r (λ m. effects.in_bounds (memories.load m (address x o) (load_bits t / 8)) (λ n. gives gg l (value (load_type t) (accesses.loaded t n) ∷ []))) ≢ unfit → gg.memory ≡ r → Guards X k g co ex (e ∷ es) (Load t align o) (kind_of (effects.with_some r (λ m. effects.in_bounds (memories.load m (address x o) (load_bits t / 8)) (λ n. gives gg l (value (load_type t) (accesses.loaded t n) ∷ [])))))
      by_memory None nw r = absurd (nw refl)
      by_memory (Some m) nw r =
          let b = load_bits t / 8 in
          rw (load_kind m (address x o) b (λ n. gives gg l (value (load_type t) (accesses.loaded t n) ∷ [])) (nat_le (address x o + b) (length m.bytes)) (λ x. refl))
          (guard_memory_to X k g m co ex e (length es) x (o + b) o b (nat_le (address x o + b) (length m.bytes)) on (gm ∙ ap (λ o. Some (values.I64 (told_length o))) r) (subst MemoryFits r mf) lo (load_small t) refl refl)

  guard_store : (X : Shell) (k : Nodes) (g gg : World) (co : List CollectorCall) (ex : List Value) (t : Store_) (align o : ℕ) (e e' : Place) (w v : Value) (es : List Place) → TellsLength C ex gg.memory → MemoryFits gg.memory → o < 2 ^ 32 → One C l ex (length es) e' v → effect (Store t align o) gg l (w ∷ v ∷ []) ≢ unfit → Guards X k g co ex (e ∷ e' ∷ es) (Store t align o) (kind_of (effect (Store t align o) gg l (w ∷ v ∷ [])))
  guard_store X k g gg co ex t align o e e' w v es gm mf lo on nw = numbers v on (two_of (store_type t) I32 w v (λ n a. effects.with_some gg.memory (λ m. effects.in_bounds (memories.put m (address a o) (to_bytes (store_bits t / 8) n)) (λ m'. gives (with_memory gg m') l []))) nw) nw
    where
      by_memory : (n x : ℕ) (r : Option Memory) → One C l ex (length es) e' (values.I32 x) → effects.with_some r (λ m. effects.in_bounds (memories.put m (address x o) (to_bytes (store_bits t / 8) n)) (λ m'. gives (with_memory gg m') l [])) ≢ unfit → gg.memory ≡ r → Guards X k g co ex (e ∷ e' ∷ es) (Store t align o) (kind_of (effects.with_some r (λ m. effects.in_bounds (memories.put m (address x o) (to_bytes (store_bits t / 8) n)) (λ m'. gives (with_memory gg m') l []))))
      by_memory n x None on nw r = absurd (nw refl)
      by_memory n x (Some m) on nw r =
          let b = store_bits t / 8 in
          let new = to_bytes b n in
          let lb : length new ≡ b = length-to_bytes b n in
          let q = nat_le (address x o + length new) (length m.bytes) in
          rw (put_kind m (address x o) new (λ m'. gives (with_memory gg m') l []) q (λ x. refl))
          (guard_memory_to X k g m co ex e' (length es) x (o + b) o b q on (gm ∙ ap (λ o. Some (values.I64 (told_length o))) r) (subst MemoryFits r mf) lo (store_small t) refl (ap (λ z. nat_le (address x o + z) (length m.bytes)) (sym lb)))

      numbers : (v : Value) → One C l ex (length es) e' v → ((n : ℕ) × (a : ℕ) × (number (store_type t) w ≡ Some n) × (number I32 v ≡ Some a)) → effect (Store t align o) gg l (w ∷ v ∷ []) ≢ unfit → Guards X k g co ex (e ∷ e' ∷ es) (Store t align o) (kind_of (effect (Store t align o) gg l (w ∷ v ∷ [])))
      numbers (values.I64 x) on q nw = absurd (cc)
      numbers (values.I32 x) on q nw = rw q.2 (by_memory q.0 x gg.memory on (rw q.2 at nw) refl)

  window_len : (xs : List ℕ) (from n : ℕ) → from + n ≤ length xs → length (memories.window xs from n) ≡ n
  window_len xs from n le = length-take-le n (drop from xs) (omega (arith, le, length-drop from xs))

  copy_kind : (m : Memory) (to from n : ℕ) (f : Memory → Effect) (q : Bool) → nat_le (from + n) (length m.bytes) ≡ q → ((x : Memory) → kind_of (f x) ≡ 0) → kind_of (effects.in_bounds (if q then memories.put m to (memories.window m.bytes from n) else None) f) ≡ out_kind (q && nat_le (to + n) (length m.bytes))
  copy_kind m to from n f false e h = refl
  copy_kind m to from n f true e h =
      let new = memories.window m.bytes from n in
      let z : length new ≡ n = window_len m.bytes from n (leb-true (from + n) (length m.bytes) e) in
      put_kind m to new f (nat_le (to + length new) (length m.bytes)) h ∙ ap (λ j. out_kind (nat_le (to + j) (length m.bytes))) z

  guard_copies : (X : Shell) (k : Nodes) (g gg : World) (co : List CollectorCall) (ex : List Value) (e e' e'' : Place) (w v u : Value) (es : List Place) → TellsLength C ex gg.memory → MemoryFits gg.memory → One C l ex (length (e' ∷ e'' ∷ es)) e w → One C l ex (length (e'' ∷ es)) e' v → One C l ex (length es) e'' u → effect MemoryCopy gg l (w ∷ v ∷ u ∷ []) ≢ unfit → Guards X k g co ex (e ∷ e' ∷ e'' ∷ es) MemoryCopy (kind_of (effect MemoryCopy gg l (w ∷ v ∷ u ∷ [])))
  guard_copies X k g gg co ex e e' e'' (values.I64 n) v u es gm mf o o' o'' nw = absurd (nw refl)
  guard_copies X k g gg co ex e e' e'' (values.I32 n) (values.I64 from) u es gm mf o o' o'' nw = absurd (nw refl)
  guard_copies X k g gg co ex e e' e'' (values.I32 n) (values.I32 from) (values.I64 to) es gm mf o o' o'' nw = absurd (nw refl)
  guard_copies X k g gg co ex e e' e'' (values.I32 n) (values.I32 from) (values.I32 to) es gm mf o o' o'' nw = by_memory gg.memory nw refl
    where
      by_memory : (r : Option Memory) → effects.with_some r (λ m. effects.in_bounds (memories.copy m (modulo I32 to) (modulo I32 from) (modulo I32 n)) (λ m'. gives (with_memory gg m') l [])) ≢ unfit → gg.memory ≡ r → Guards X k g co ex (e ∷ e' ∷ e'' ∷ es) MemoryCopy (kind_of (effects.with_some r (λ m. effects.in_bounds (memories.copy m (modulo I32 to) (modulo I32 from) (modulo I32 n)) (λ m'. gives (with_memory gg m') l []))))
      by_memory None nw r = absurd (nw refl)
      by_memory (Some m) nw r =
          subst (Guards X k g co ex (e ∷ e' ∷ e'' ∷ es) MemoryCopy) (sym (copy_kind m (modulo I32 to) (modulo I32 from) (modulo I32 n) (λ m'. gives (with_memory gg m') l []) (nat_le (modulo I32 from + modulo I32 n) (length m.bytes)) refl (λ x. refl)))
          (guard_copy_to X k g m co ex e e' e'' (length es) from to n o o' o'' (gm ∙ ap (λ o. Some (values.I64 (told_length o))) r) (subst MemoryFits r mf))

  guard_fills : (X : Shell) (k : Nodes) (g gg : World) (co : List CollectorCall) (ex : List Value) (e e' e'' : Place) (w v u : Value) (es : List Place) → TellsLength C ex gg.memory → MemoryFits gg.memory → One C l ex (length (e' ∷ e'' ∷ es)) e w → One C l ex (length es) e'' u → effect MemoryFill gg l (w ∷ v ∷ u ∷ []) ≢ unfit → Guards X k g co ex (e ∷ e' ∷ e'' ∷ es) MemoryFill (kind_of (effect MemoryFill gg l (w ∷ v ∷ u ∷ [])))
  guard_fills X k g gg co ex e e' e'' (values.I64 n) v u es gm mf o o'' nw = absurd (nw refl)
  guard_fills X k g gg co ex e e' e'' (values.I32 n) (values.I64 byte) u es gm mf o o'' nw = absurd (nw refl)
  guard_fills X k g gg co ex e e' e'' (values.I32 n) (values.I32 byte) (values.I64 to) es gm mf o o'' nw = absurd (nw refl)
  guard_fills X k g gg co ex e e' e'' (values.I32 n) (values.I32 byte) (values.I32 to) es gm mf o o'' nw = by_memory gg.memory nw refl
    where
      by_memory : (r : Option Memory) → effects.with_some r (λ m. effects.in_bounds (memories.fill m (modulo I32 to) (byte % 256) (modulo I32 n)) (λ m'. gives (with_memory gg m') l [])) ≢ unfit → gg.memory ≡ r → Guards X k g co ex (e ∷ e' ∷ e'' ∷ es) MemoryFill (kind_of (effects.with_some r (λ m. effects.in_bounds (memories.fill m (modulo I32 to) (byte % 256) (modulo I32 n)) (λ m'. gives (with_memory gg m') l []))))
      by_memory None nw r = absurd (nw refl)
      by_memory (Some m) nw r =
          let new = replicate (modulo I32 n) (byte % 256) in
          let z : length new ≡ modulo I32 n = length-replicate {A = ℕ} (modulo I32 n) (byte % 256) in
          let kind = put_kind m (modulo I32 to) new (λ m'. gives (with_memory gg m') l []) (nat_le (modulo I32 to + length new) (length m.bytes)) (λ x. refl) ∙ ap (λ j. out_kind (nat_le (modulo I32 to + j) (length m.bytes))) z in
          subst (Guards X k g co ex (e ∷ e' ∷ e'' ∷ es) MemoryFill) (sym kind) (guard_fill_to X k g m co ex e e'' (length es) to n o o'' (gm ∙ ap (λ o. Some (values.I64 (told_length o))) r) (subst MemoryFits r mf))

  -- a guard tells whether the instruction traps, and the other piece with which kind; both change nothing
  guard_by : (X : Shell) (k : Nodes) (g gg : World) (co : List CollectorCall) (ex : List Value) (js es : List Place) (ops vs below : List Value) (i : Basic) → Risky i → TellsLength C ex gg.memory → MemoryFits gg.memory → SmallOffset i → can_trap i ≡ true → Holds C l ex js ops es → cut (takes i) ops ≡ parts vs below → effect i gg l vs ≢ unfit → Guards X k g co ex (es ++ js) i (kind_of (effect i gg l vs))
  guard_by X k g gg co ex js es [] vs below i (risky_binary t1 op by) gm mf so t h c nw = absurd (cc)
  guard_by X k g gg co ex js es (y ∷ []) vs below i (risky_binary t1 op by) gm mf so t h c nw = absurd (cc)
  guard_by X k g gg co ex js [] (y ∷ x ∷ ops) vs below i (risky_binary t1 op by) gm mf so t h c nw = absurd h
  guard_by X k g gg co ex js (e ∷ []) (y ∷ x ∷ ops) vs below i (risky_binary t1 op by) gm mf so t h c nw = absurd h.1
  guard_by X k g gg co ex js (e ∷ e' ∷ es) (y ∷ x ∷ ops) vs below i (risky_binary t1 op by) gm mf so t h c nw =
      let f : vs ≡ y ∷ x ∷ [] = cc in
      let nw' = subst (λ z. effect (Binary t1 op) gg l z ≢ unfit) f nw in
      subst (λ z. Guards X k g co ex (e ∷ e' ∷ (es ++ js)) (Binary t1 op) (kind_of (effect (Binary t1 op) gg l z))) (sym f) (guard_div X k g gg co ex t1 op e e' y x (es ++ js) t h.0 h.1.0 nw')
  guard_by X k g gg co ex js es [] vs below i (risky_load t1 al o) gm mf so t h c nw = absurd (cc)
  guard_by X k g gg co ex js [] (y ∷ ops) vs below i (risky_load t1 al o) gm mf so t h c nw = absurd h
  guard_by X k g gg co ex js (e ∷ es) (y ∷ ops) vs below i (risky_load t1 al o) gm mf so t h c nw =
      let f : vs ≡ y ∷ [] = cc in
      let nw' = subst (λ z. effect (Load t1 al o) gg l z ≢ unfit) f nw in
      subst (λ z. Guards X k g co ex (e ∷ (es ++ js)) (Load t1 al o) (kind_of (effect (Load t1 al o) gg l z))) (sym f) (guard_load X k g gg co ex t1 al o e y (es ++ js) gm mf so h.0 nw')
  guard_by X k g gg co ex js es [] vs below i (risky_store t1 al o) gm mf so t h c nw = absurd (cc)
  guard_by X k g gg co ex js es (y ∷ []) vs below i (risky_store t1 al o) gm mf so t h c nw = absurd (cc)
  guard_by X k g gg co ex js [] (y ∷ x ∷ ops) vs below i (risky_store t1 al o) gm mf so t h c nw = absurd h
  guard_by X k g gg co ex js (e ∷ []) (y ∷ x ∷ ops) vs below i (risky_store t1 al o) gm mf so t h c nw = absurd h.1
  guard_by X k g gg co ex js (e ∷ e' ∷ es) (y ∷ x ∷ ops) vs below i (risky_store t1 al o) gm mf so t h c nw =
      let f : vs ≡ y ∷ x ∷ [] = cc in
      let nw' = subst (λ z. effect (Store t1 al o) gg l z ≢ unfit) f nw in
      subst (λ z. Guards X k g co ex (e ∷ e' ∷ (es ++ js)) (Store t1 al o) (kind_of (effect (Store t1 al o) gg l z))) (sym f) (guard_store X k g gg co ex t1 al o e e' y x (es ++ js) gm mf so h.1.0 nw')
  guard_by X k g gg co ex js es [] vs below i risky_copy gm mf so t h c nw = absurd (cc)
  guard_by X k g gg co ex js es (y ∷ []) vs below i risky_copy gm mf so t h c nw = absurd (cc)
  guard_by X k g gg co ex js es (y ∷ x ∷ []) vs below i risky_copy gm mf so t h c nw = absurd (cc)
  guard_by X k g gg co ex js [] (y ∷ x ∷ z ∷ ops) vs below i risky_copy gm mf so t h c nw = absurd h
  guard_by X k g gg co ex js (e ∷ []) (y ∷ x ∷ z ∷ ops) vs below i risky_copy gm mf so t h c nw = absurd h.1
  guard_by X k g gg co ex js (e ∷ e' ∷ []) (y ∷ x ∷ z ∷ ops) vs below i risky_copy gm mf so t h c nw = absurd h.1.1
  guard_by X k g gg co ex js (e ∷ e' ∷ e'' ∷ es) (y ∷ x ∷ z ∷ ops) vs below i risky_copy gm mf so t h c nw =
      let f : vs ≡ y ∷ x ∷ z ∷ [] = cc in
      let nw' = subst (λ z. effect MemoryCopy gg l z ≢ unfit) f nw in
      subst (λ z. Guards X k g co ex (e ∷ e' ∷ e'' ∷ (es ++ js)) MemoryCopy (kind_of (effect MemoryCopy gg l z))) (sym f) (guard_copies X k g gg co ex e e' e'' y x z (es ++ js) gm mf h.0 h.1.0 h.1.1.0 nw')
  guard_by X k g gg co ex js es [] vs below i risky_fill gm mf so t h c nw = absurd (cc)
  guard_by X k g gg co ex js es (y ∷ []) vs below i risky_fill gm mf so t h c nw = absurd (cc)
  guard_by X k g gg co ex js es (y ∷ x ∷ []) vs below i risky_fill gm mf so t h c nw = absurd (cc)
  guard_by X k g gg co ex js [] (y ∷ x ∷ z ∷ ops) vs below i risky_fill gm mf so t h c nw = absurd h
  guard_by X k g gg co ex js (e ∷ []) (y ∷ x ∷ z ∷ ops) vs below i risky_fill gm mf so t h c nw = absurd h.1
  guard_by X k g gg co ex js (e ∷ e' ∷ []) (y ∷ x ∷ z ∷ ops) vs below i risky_fill gm mf so t h c nw = absurd h.1.1
  guard_by X k g gg co ex js (e ∷ e' ∷ e'' ∷ es) (y ∷ x ∷ z ∷ ops) vs below i risky_fill gm mf so t h c nw =
      let f : vs ≡ y ∷ x ∷ z ∷ [] = cc in
      let nw' = subst (λ z. effect MemoryFill gg l z ≢ unfit) f nw in
      subst (λ z. Guards X k g co ex (e ∷ e' ∷ e'' ∷ (es ++ js)) MemoryFill (kind_of (effect MemoryFill gg l z))) (sym f) (guard_fills X k g gg co ex e e' e'' y x z (es ++ js) gm mf h.0 h.1.1.0 nw')

  pub guard_to : (X : Shell) (k : Nodes) (g gg : World) (co : List CollectorCall) (ex : List Value) (js es : List Place) (ops vs below : List Value) (i : Basic) → TellsLength C ex gg.memory → MemoryFits gg.memory → SmallOffset i → can_trap i ≡ true → Holds C l ex js ops es → cut (takes i) ops ≡ parts vs below → effect i gg l vs ≢ unfit → Guards X k g co ex (es ++ js) i (kind_of (effect i gg l vs))
  guard_to X k g gg co ex js es ops vs below i gm mf so t h c nw = guard_by X k g gg co ex js es ops vs below i (risk_of i t) gm mf so t h c nw
