-- Runs of so many steps, and what the small pieces of rewritten code do.
use Rattle.std.proofs.Common.{◌≡◌, ℕ, zero, suc, ◌+◌, ◌*◌, ◌<◌, ◌≤◌, List, [], ◌∷◌, ◌++◌, length, Option, Some, None, Bool, true, false, refl, sym, ap, ◌∙◌, subst, arith, ◌≢◌, slice_get, slice_set, option_map, replicate}
use Rattle.std.proofs.lemmas.List.{length-replicate, get_or-replicate}
use Rattle.std.proofs.lemmas.Option.{slice_get-get_or}
use Rattle.pm_text.proofs.Lists.{get_front}
use Rattle.wasm_syntax.specs.declared.value.ValType.{ValType}
use Rattle.wasm_syntax.specs.declared.value.ValType.TheVariants.{I32, I64}
use Rattle.wasm_syntax.specs.declared.value.Value.{Value}
use Rattle.wasm_syntax.specs.declared.instruction.Basic.TheVariants.{LocalGet, LocalSet, LocalTee}
use Rattle.wasm_syntax.specs.Numbers.{type_of, types, same_type}
use Rattle.wasm_syntax.specs.Tree.{Nodes, basic}
use Rattle.wasm_syntax.specs.Host.{World}
use Rattle.wasm_syntax.specs.declared.host.CollectorCall.{CollectorCall}
use Rattle.wasm_syntax.specs.Machine.{Config, Engine, Stepped, next, ends, traps, no_reply, bad_reply, stuck, Cut, short, parts, one_more, cut, exactly, step}
use Rattle.rewrite_bodies.specs.calls.Slots.{Place, Spilled, Known, Copied, Ctx, slot, kind_at, offset_at, added, less, length_at}
use Rattle.rewrite_bodies.specs.calls.Pieces.{get, set, const, fetch, load, keep, store, reload, drops}
use Rattle.rewrite_bodies.specs.calls.Agreement.{One, Holds}
use Rattle.rewrite_bodies.specs.calls.Steps.{went, run, Gets, To, Shell, st}
use Rattle.wasm_laws.proofs.Progress.{get_type, same_of}
use Rattle.wasm_syntax.proofs.Types.{same_type_is}
use Rattle.std.specs.Bool.{then_some}

pub slice_get-append : {A : Type 0} (l ex : List A) (n h : ℕ) → n ≡ length l → slice_get (l ++ ex) (n + h) ≡ slice_get ex h
slice_get-append [] ex n h e = ap (slice_get ex) (omega arith)
slice_get-append (x ∷ l) ex n h e =
    let m : n + h ≡ suc (length l + h) = omega arith in
    ap (slice_get (x ∷ (l ++ ex))) m ∙ slice_get-append l ex (length l) h refl

pub get_own : (l ex : List Value) (x : ℕ) (v : Value) → slice_get l x ≡ Some v → slice_get (l ++ ex) x ≡ Some v
get_own [] ex x v e = absurd (cc)
get_own (w ∷ l) ex zero v e = e
get_own (w ∷ l) ex (suc x) v e = get_own l ex x v e

pub slice_set-append : (l ex : List Value) (n h : ℕ) (v : Value) → n ≡ length l → slice_set (l ++ ex) (n + h) v ≡ l ++ slice_set ex h v
slice_set-append [] ex n h v e = ap (λ k. slice_set ex k v) (omega arith)
slice_set-append (x ∷ l) ex n h v e =
    let m : n + h ≡ suc (length l + h) = omega arith in
    ap (λ k. slice_set (x ∷ (l ++ ex)) k v) m ∙ ap (λ r. x ∷ r) (slice_set-append l ex (length l) h v refl)

pub slice_get-put_same : (ex : List Value) (i : ℕ) (t : ValType) (v : Value) → slice_get (types ex) i ≡ Some t → slice_get (slice_set ex i v) i ≡ Some v
slice_get-put_same [] i t v e = absurd (cc)
slice_get-put_same (x ∷ ex) zero t v e = refl
slice_get-put_same (x ∷ ex) (suc i) t v e = slice_get-put_same ex i t v e

pub slice_get-put_other : (ex : List Value) (h i : ℕ) (v : Value) → h ≢ i → slice_get (slice_set ex i v) h ≡ slice_get ex h
slice_get-put_other [] h i v ne = refl
slice_get-put_other (x ∷ ex) zero zero v ne = absurd (ne refl)
slice_get-put_other (x ∷ ex) zero (suc i) v ne = refl
slice_get-put_other (x ∷ ex) (suc h) zero v ne = refl
slice_get-put_other (x ∷ ex) (suc h) (suc i) v ne = let n : h ≢ i = omega arith in slice_get-put_other ex h i v n

-- a write of the same type
pub types-slice_set : (ex : List Value) (i : ℕ) (t : ValType) (v : Value) → slice_get (types ex) i ≡ Some t → type_of v ≡ t → types (slice_set ex i v) ≡ types ex
types-slice_set [] i t v e d = refl
types-slice_set (x ∷ ex) zero t v e d = let z : type_of v ≡ type_of x = cc in ap (λ q. q ∷ types ex) z
types-slice_set (x ∷ ex) (suc i) t v e d = ap (λ q. type_of x ∷ q) (types-slice_set ex i t v e d)

-- the types of the added locals
same_at : (n i : ℕ) (t : ValType) → i < n → slice_get (replicate n t) i ≡ Some t
same_at n i t lt = slice_get-get_or (replicate n t) i t (omega (arith, lt, length-replicate {A = ValType} n t)) ∙ ap Some (get_or-replicate n i t t lt)

added_i32 : (n i : ℕ) → i < n + 3 → slice_get (added n) i ≡ Some I32
added_i32 n i lt = get_front (replicate (n + 3) I32) (replicate (n + 2) I64) i I32 (same_at (n + 3) i I32 lt)

pub added_at : (n h : ℕ) (t : ValType) → h ≤ n → slice_get (added n) (slot n t h) ≡ Some t
added_at n h I32 le = added_i32 n h (omega (arith, le))
added_at n h I64 le =
    slice_get-append (replicate (n + 3) I32) (replicate (n + 2) I64) (n + 3) h (sym (length-replicate {A = ValType} (n + 3) I32))
    ∙ same_at (n + 2) h I64 (omega (arith, le))

pub added_kind : (n : ℕ) → slice_get (added n) (n + 1) ≡ Some I32
added_kind n = added_i32 n (n + 1) (omega arith)

pub added_offset : (n : ℕ) → slice_get (added n) (n + 2) ≡ Some I32
added_offset n = added_i32 n (n + 2) (omega arith)

pub added_length : (n : ℕ) → slice_get (added n) (2 * n + 4) ≡ Some I64
added_length n =
    let at : 2 * n + 4 ≡ n + 3 + (n + 1) = omega arith in
    ap (slice_get (added n)) at ∙ slice_get-append (replicate (n + 3) I32) (replicate (n + 2) I64) (n + 3) (n + 1) (sym (length-replicate {A = ValType} (n + 3) I32))
    ∙ same_at (n + 2) (n + 1) I64 (omega arith)

-- the added locals after results went to a place
abbrev pub stored : Option ValType → (ValType → ℕ) → List Value → List Value → List Value
stored None i vs ex = ex
stored (Some t) i [] ex = ex
stored (Some t) i (v ∷ vs) ex = slice_set ex (i t) v

pub stored_other : (r : Option ValType) (i : ValType → ℕ) (vs ex : List Value) (j : ℕ) → ((t : ValType) → j ≢ i t) → slice_get (stored r i vs ex) j ≡ slice_get ex j
stored_other None i vs ex j ne = refl
stored_other (Some t) i [] ex j ne = refl
stored_other (Some t) i (v ∷ vs) ex j ne = slice_get-put_other ex j (i t) v (ne t)

-- slots of different heights are apart
pub apart : (C : Ctx) (t u : ValType) (h k : ℕ) → h < k → k ≤ C.slots → slot C.slots t h ≢ slot C.slots u k
apart C I32 I32 h k lt le = omega (arith, lt)
apart C I32 I64 h k lt le = omega (arith, lt)
apart C I64 I32 h k lt le = omega (arith, le)
apart C I64 I64 h k lt le = omega (arith, lt)

-- the kind has no slot, and the offset has none
pub kind_no_slot : (C : Ctx) (h : ℕ) (t : ValType) → h ≤ C.slots → kind_at C ≢ slot C.slots t h
kind_no_slot C h I32 le = omega (arith, le)
kind_no_slot C h I64 le = omega arith

offset_no_slot : (C : Ctx) (h : ℕ) (t : ValType) → h ≤ C.slots → offset_at C ≢ slot C.slots t h
offset_no_slot C h I32 le = omega (arith, le)
offset_no_slot C h I64 le = omega arith

-- nor has the length
pub length_no_slot : (C : Ctx) (h : ℕ) (t : ValType) → h ≤ C.slots → length_at C ≢ slot C.slots t h
length_no_slot C h I32 le = omega (arith, le)
length_no_slot C h I64 le = omega (arith, le)

-- no height below this one has its slot there
abbrev pub Clear : Ctx → ℕ → ℕ → Type 0
Clear C n i = (t : ValType) (h : ℕ) → h < n → slot C.slots t h ≢ i

pub clear_less : (C : Ctx) (m n i : ℕ) → m ≤ n → Clear C n i → Clear C m i
clear_less C m n i le clear = λ t h lt. clear t h (omega (arith, lt, le))

pub clear_slot : (C : Ctx) (n : ℕ) (t : ValType) → n ≤ C.slots → Clear C n (slot C.slots t n)
clear_slot C n t le = λ u h lt. apart C u t h n lt le

pub clear_kind : (C : Ctx) (n : ℕ) → n ≤ suc C.slots → Clear C n (kind_at C)
clear_kind C n le = λ t h lt e. kind_no_slot C h t (omega (arith, lt, le)) (sym e)

pub clear_offset : (C : Ctx) (n : ℕ) → n ≤ suc C.slots → Clear C n (offset_at C)
clear_offset C n le = λ t h lt e. offset_no_slot C h t (omega (arith, lt, le)) (sym e)

pub clear_length : (C : Ctx) (n : ℕ) → n ≤ suc C.slots → Clear C n (length_at C)
clear_length C n le = λ t h lt e. length_no_slot C h t (omega (arith, lt, le)) (sym e)

-- there is a place for the result
abbrev pub HasPlace : Option ValType → (ValType → ℕ) → List Value → Type 0
HasPlace None i ex = Unit {0}
HasPlace (Some t) i ex = slice_get (types ex) (i t) ≡ Some t

pub if_same : {A : Type 0} (b : Bool) (x y : A) → then_some b x ≡ Some y → (b ≡ true) × (x ≡ y)
if_same false x y e = absurd (cc)
if_same true x y e = (refl, cc)

pub types-stored : (r : Option ValType) (i : ValType → ℕ) (vs ex : List Value) → HasPlace r i ex → exactly r vs ≡ Some vs → types (stored r i vs ex) ≡ types ex
types-stored None i vs ex p e = refl
types-stored (Some t) i [] ex p e = refl
types-stored (Some t) i (v ∷ []) ex p e = types-slice_set ex (i t) t v p (same_type_is (type_of v) t (if_same (same_type (type_of v) t) (v ∷ []) (v ∷ []) e).0)
types-stored (Some t) i (v ∷ w ∷ vs) ex p e = absurd (cc)

pub more_parts : (v : Value) (u : Cut) (vs below : List Value) → one_more v u ≡ parts vs below → (t : List Value) × (u ≡ parts t below) × (vs ≡ v ∷ t)
more_parts v short vs below e = cc
more_parts v (parts t b) vs below e = let x : b ≡ below = cc in (t, ap (parts t) x, cc)

pub cut_front : (vs below : List Value) → cut (length vs) (vs ++ below) ≡ parts vs below
cut_front [] below = refl
cut_front (v ∷ vs) below = ap (one_more v) (cut_front vs below)

-- what is left of them
pub less_holds : (C : Ctx) (l ex : List Value) (m : ℕ) (js es : List Place) (ops vs below : List Value) → Holds C l ex js ops es → cut m ops ≡ parts vs below → (es' : List Place) × (less m (es ++ js) ≡ es' ++ js) × Holds C l ex js below es'
less_holds C l ex zero js es ops vs below h e = let f : ops ≡ below = cc in (es, refl, rw f at h)
less_holds C l ex (suc m) js [] [] vs below h e = absurd (cc)
less_holds C l ex (suc m) js (e ∷ es) [] vs below h c = absurd h
less_holds C l ex (suc m) js [] (v ∷ ops) vs below h c = absurd h
less_holds C l ex (suc m) js (e ∷ es) (v ∷ ops) vs below h c =
    let r = more_parts v (cut m ops) vs below c in
    less_holds C l ex m js es ops r.0 below h.1 r.1

-- places are not touched by a write where none of their heights has its slot
one_put : (C : Ctx) (l ex : List Value) (h i : ℕ) (v w : Value) (e : Place) → ((t : ValType) → slot C.slots t h ≢ i) → One C l ex h e v → One C l (slice_set ex i w) h e v
one_put C l ex h i v w (Spilled t) clear o = (slice_get-put_other ex (slot C.slots t h) i w (clear t) ∙ o.0, o.1)
one_put C l ex h i v w (Known u) clear o = o
one_put C l ex h i v w (Copied t x) clear o = o

pub holds_put : (C : Ctx) (l ex : List Value) (js es : List Place) (ops : List Value) (i : ℕ) (w : Value) → Clear C (length (es ++ js)) i → Holds C l ex js ops es → Holds C l (slice_set ex i w) js ops es
holds_put C l ex js [] [] i w clear h = tt
holds_put C l ex js (e ∷ es) [] i w clear h = absurd h
holds_put C l ex js [] (v ∷ ops) i w clear h = absurd h
holds_put C l ex js (e ∷ es) (v ∷ ops) i w clear h =
    let n = length (es ++ js) in
    (one_put C l ex n i v w e (λ t. clear t n (omega arith)) h.0, holds_put C l ex js es ops i w (clear_less C n (suc n) i (omega arith) clear) h.1)

module _ (M : Engine) where
  went-to : (more more' : Config → Stepped) (n k : ℕ) (q r : Stepped) (c' : Config) → ((c : Config) → more c ≡ next c' → more' c ≡ r) → went M more n q ≡ next c' → went M more' k q ≡ r
  went-to more more' n k (next c) r c' h e = h c e
  went-to more more' zero k (ends w vs co) r c' h e = cc
  went-to more more' (suc n) k (ends w vs co) r c' h e = cc
  went-to more more' zero k (traps j c) r c' h e = cc
  went-to more more' (suc n) k (traps j c) r c' h e = cc
  went-to more more' zero k (no_reply cl c) r c' h e = cc
  went-to more more' (suc n) k (no_reply cl c) r c' h e = cc
  went-to more more' zero k (bad_reply cl rp c) r c' h e = cc
  went-to more more' (suc n) k (bad_reply cl rp c) r c' h e = cc
  went-to more more' zero k stuck r c' h e = cc
  went-to more more' (suc n) k stuck r c' h e = cc

  run-add : (a b : ℕ) (c c' : Config) → run M a c ≡ next c' → run M (a + b) c ≡ run M b c'
  run-add zero b c c' e = let f : c ≡ c' = cc in let z : 0 + b ≡ b = omega arith in ap (λ n. run M n c) z ∙ ap (run M b) f
  run-add (suc a) b c c' e =
      let z : suc a + b ≡ suc (a + b) = omega arith in
      ap (λ n. run M n c) z ∙ went-to (run M a) (run M (a + b)) a (a + b) (step M c) (run M b c') c' (λ d. run-add a b d c') e

  one_on : (r : Stepped) → went M (run M 0) 0 r ≡ r
  one_on (next c) = refl
  one_on (ends w vs co) = refl
  one_on (traps k c) = refl
  one_on (no_reply cl c) = refl
  one_on (bad_reply cl r c) = refl
  one_on stuck = refl

  pub still : (c : Config) → To M 0 0 c c
  still c = record { count = 0; low = omega arith; high = omega arith; goes = refl }

  pub one_step : (c : Config) (r : Stepped) → step M c ≡ r → Gets M 1 1 c r
  one_step c r e = record { count = 1; low = omega arith; high = omega arith; goes = one_on (step M c) ∙ e }

  pub seq : {p q r t : ℕ} {x y : Config} {z : Stepped} → To M p q x y → Gets M r t y z → Gets M (p + r) (q + t) x z
  seq {x = x} {y = y} a b = record { count = a.count + b.count; low = omega (arith, a.low, b.low); high = omega (arith, a.high, b.high); goes = run-add a.count b.count x y a.goes ∙ b.goes }

  pub weaken : {p q r t : ℕ} {x : Config} {y : Stepped} → Gets M p q x y → r ≤ p → q ≤ t → Gets M r t x y
  weaken a l h = record { count = a.count; low = omega (arith, a.low); high = omega (arith, a.high); goes = a.goes }

  pub push_to : {X : Shell} {tl s : List Value} {k : Nodes} {g : World} {co : List CollectorCall} (v : Value) → To M 1 1 (st X tl s (const v k) g co) (st X tl (v ∷ s) k g co)
  push_to v = one_step _ _ refl

  pub get_to : {X : Shell} {tl s : List Value} {k : Nodes} {g : World} {co : List CollectorCall} (x : ℕ) (v : Value) → slice_get tl x ≡ Some v → To M 1 1 (st X tl s (basic 0 (LocalGet x) k) g co) (st X tl (v ∷ s) k g co)
  get_to x v e = one_step _ _ (rw e)

  pub tee_to : {X : Shell} {tl s : List Value} {k : Nodes} {g : World} {co : List CollectorCall} (x : ℕ) (v w : Value) → slice_get tl x ≡ Some w → type_of w ≡ type_of v → To M 1 1 (st X tl (v ∷ s) (basic 0 (LocalTee x) k) g co) (st X (slice_set tl x v) (v ∷ s) k g co)
  tee_to x v w e d = one_step _ _ (rw (e, same_of (type_of w) (type_of v) d) refl)

  -- operands are dropped
  pub drops_to : {X : Shell} {tl : List Value} {g : World} {co : List CollectorCall} (m : ℕ) (ops vs below : List Value) (k : Nodes) → cut m ops ≡ parts vs below → To M m m (st X tl ops (drops m k) g co) (st X tl below k g co)
  drops_to zero ops vs below k c = let f : ops ≡ below = cc in rw f (still _)
  drops_to (suc m) [] vs below k c = absurd (cc)
  drops_to (suc m) (v ∷ ops) vs below k c =
      let r = more_parts v (cut m ops) vs below c in
      weaken (seq (one_step _ _ refl) (drops_to m ops r.0 below k r.1)) (omega arith) (omega arith)

  pub put_to : {X : Shell} {tl s : List Value} {k : Nodes} {g : World} {co : List CollectorCall} (x : ℕ) (v w : Value) → slice_get tl x ≡ Some w → type_of w ≡ type_of v → To M 1 1 (st X tl (v ∷ s) (basic 0 (LocalSet x) k) g co) (st X (slice_set tl x v) s k g co)
  put_to x v w e d = one_step _ _ (rw (e, same_of (type_of w) (type_of v) d) refl)

  -- the added locals
  module _ (C : Ctx) (l : List Value) (size : length C.locals ≡ length l) where
    pub added_get : {X : Shell} {s : List Value} {k : Nodes} {g : World} {co : List CollectorCall} (ex : List Value) (h : ℕ) (v : Value) → slice_get ex h ≡ Some v → To M 1 1 (st X (l ++ ex) s (get C h k) g co) (st X (l ++ ex) (v ∷ s) k g co)
    added_get ex h v e = get_to ((length C.locals) + h) v (slice_get-append l ex (length C.locals) h size ∙ e)

    pub added_set : {X : Shell} {s : List Value} {k : Nodes} {g : World} {co : List CollectorCall} (ex : List Value) (h : ℕ) (t : ValType) (v : Value) → slice_get (types ex) h ≡ Some t → type_of v ≡ t → To M 1 1 (st X (l ++ ex) (v ∷ s) (set C h k) g co) (st X (l ++ slice_set ex h v) s k g co)
    added_set {X = X} {s = s} {k = k} {g = g} {co = co} ex h t v at d =
        let w = get_type ex h t at in
        subst (λ z. To M 1 1 (st X (l ++ ex) (v ∷ s) (set C h k) g co) (st X z s k g co)) (slice_set-append l ex (length C.locals) h v size) (put_to ((length C.locals) + h) v w.0 (slice_get-append l ex (length C.locals) h size ∙ w.1) (w.2 ∙ sym d))

    pub added_tee : {X : Shell} {s : List Value} {k : Nodes} {g : World} {co : List CollectorCall} (ex : List Value) (h : ℕ) (t : ValType) (v : Value) → slice_get (types ex) h ≡ Some t → type_of v ≡ t → To M 1 1 (st X (l ++ ex) (v ∷ s) (basic 0 (LocalTee (length C.locals + h)) k) g co) (st X (l ++ slice_set ex h v) (v ∷ s) k g co)
    added_tee {X = X} {s = s} {k = k} {g = g} {co = co} ex h t v at d =
        let w = get_type ex h t at in
        subst (λ z. To M 1 1 (st X (l ++ ex) (v ∷ s) (basic 0 (LocalTee (length C.locals + h)) k) g co) (st X z (v ∷ s) k g co)) (slice_set-append l ex (length C.locals) h v size) (tee_to ((length C.locals) + h) v w.0 (slice_get-append l ex (length C.locals) h size ∙ w.1) (w.2 ∙ sym d))

    pub fetch_to : {X : Shell} {s : List Value} {k : Nodes} {g : World} {co : List CollectorCall} (ex : List Value) (h : ℕ) (e : Place) (v : Value) → One C l ex h e v → To M 1 1 (st X (l ++ ex) s (fetch C e h k) g co) (st X (l ++ ex) (v ∷ s) k g co)
    fetch_to ex h (Spilled t) v o = added_get ex (slot C.slots t h) v o.0
    fetch_to {X = X} {s = s} {k = k} {g = g} {co = co} ex h (Known w) v o = subst (λ t. To M 1 1 (st X (l ++ ex) s (const w k) g co) (st X (l ++ ex) (t ∷ s) k g co)) o (push_to w)
    fetch_to ex h (Copied t x) v o = get_to x v (get_own l ex x v o.0)

    -- operands of the innermost label are fetched
    pub load_to : {X : Shell} {g : World} {co : List CollectorCall} (ex : List Value) (m : ℕ) (js es : List Place) (ops s vs below : List Value) (k : Nodes) → Holds C l ex js ops es → cut m ops ≡ parts vs below → To M m m (st X (l ++ ex) s (load C m (es ++ js) k) g co) (st X (l ++ ex) (vs ++ s) k g co)
    load_to ex zero js es ops s vs below k h e = let f : vs ≡ [] = cc in rw f (still _)
    load_to ex (suc m) js [] [] s vs below k h e = absurd (cc)
    load_to ex (suc m) js (e ∷ es) [] s vs below k h c = absurd h
    load_to ex (suc m) js [] (v ∷ ops) s vs below k h c = absurd h
    load_to ex (suc m) js (e ∷ es) (v ∷ ops) s vs below k h c =
        let r = more_parts v (cut m ops) vs below c in
        rw r.2 (weaken (seq (load_to ex m js es ops s r.0 below (fetch C e (length (es ++ js)) k) h.1 r.1) (fetch_to ex (length (es ++ js)) e v h.0)) (omega arith) (omega arith))

    -- results go to their slots
    pub store_to : {X : Shell} {g : World} {co : List CollectorCall} (ex : List Value) (r : Option ValType) (es : List Place) (vs : List Value) (k : Nodes) → HasPlace r (λ t. slot C.slots t (length es)) ex → exactly r vs ≡ Some vs → To M 0 1 (st X (l ++ ex) vs (store C r es k) g co) (st X (l ++ stored r (λ t. slot C.slots t (length es)) vs ex) [] k g co)
    store_to ex None es [] k p e = weaken (still _) (omega arith) (omega arith)
    store_to ex None es (v ∷ vs) k p e = absurd (cc)
    store_to ex (Some t) es [] k p e = absurd (cc)
    store_to ex (Some t) es (v ∷ []) k p e = weaken (added_set ex (slot C.slots t (length es)) t v p (same_type_is (type_of v) t (if_same (same_type (type_of v) t) (v ∷ []) (v ∷ []) e).0)) (omega arith) (omega arith)
    store_to ex (Some t) es (v ∷ w ∷ vs) k p e = absurd (cc)

    -- and are kept there besides
    pub kept_to : {X : Shell} {g : World} {co : List CollectorCall} (ex : List Value) (r : Option ValType) (es : List Place) (vs s : List Value) (k : Nodes) → HasPlace r (λ t. slot C.slots t (length es)) ex → exactly r vs ≡ Some vs → To M 0 1 (st X (l ++ ex) (vs ++ s) (keep false C (option_map Spilled r) es k) g co) (st X (l ++ stored r (λ t. slot C.slots t (length es)) vs ex) (vs ++ s) k g co)
    kept_to ex None es [] s k p e = weaken (still _) (omega arith) (omega arith)
    kept_to ex None es (v ∷ vs) s k p e = absurd (cc)
    kept_to ex (Some t) es [] s k p e = absurd (cc)
    kept_to ex (Some t) es (v ∷ []) s k p e = weaken (added_tee ex (slot C.slots t (length es)) t v p (same_type_is (type_of v) t (if_same (same_type (type_of v) t) (v ∷ []) (v ∷ []) e).0)) (omega arith) (omega arith)
    kept_to ex (Some t) es (v ∷ w ∷ vs) s k p e = absurd (cc)

    -- a result comes back from its slot
    pub reload_to : {X : Shell} {g : World} {co : List CollectorCall} (ex : List Value) (r : Option ValType) (es : List Place) (vs s : List Value) (k : Nodes) → HasPlace r (λ t. slot C.slots t (length es)) ex → exactly r vs ≡ Some vs → To M 0 1 (st X (l ++ stored r (λ t. slot C.slots t (length es)) vs ex) s (reload C r es k) g co) (st X (l ++ stored r (λ t. slot C.slots t (length es)) vs ex) (vs ++ s) k g co)
    reload_to ex None es [] s k p e = weaken (still _) (omega arith) (omega arith)
    reload_to ex None es (v ∷ vs) s k p e = absurd (cc)
    reload_to ex (Some t) es [] s k p e = absurd (cc)
    reload_to ex (Some t) es (v ∷ []) s k p e = weaken (added_get (slice_set ex (slot C.slots t (length es)) v) (slot C.slots t (length es)) v (slice_get-put_same ex (slot C.slots t (length es)) t v p)) (omega arith) (omega arith)
    reload_to ex (Some t) es (v ∷ w ∷ vs) s k p e = absurd (cc)
