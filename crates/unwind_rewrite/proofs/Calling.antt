-- How calls and what stands behind them are put together.
use Rattle.std.proofs.Common.{◌≡◌, ℕ, suc, ◌-◌, ◌≤◌, Bool, true, false, nat_lt, List, ◌∷◌, length, slice_get, take, option_map, Option, Some, None, refl, sym, ap, subst, ◌∙◌, arith}
use Rattle.wasm_syntax.specs.declared.value.ValType.{ValType}
use Rattle.wasm_syntax.specs.declared.value.ValType.TheVariants.{I32}
use Rattle.int_ops.specs.declared.operators.Binary.TheVariants.{Add, Or}
use Rattle.wasm_syntax.specs.declared.instruction.Basic.TheVariants.{GlobalGet, Eqz, Binary}
use Rattle.wasm_syntax.specs.declared.parts.FuncType.{FuncType}
use Rattle.wasm_syntax.specs.Tree.{CallIndirect, Nodes, stop, basic, jump, choose}
use Rattle.wasm_syntax.specs.Machine.{result_of}
use Rattle.rewrite_bodies.specs.Numbering.{import_count, mapped, flag_of, doubles}
use Rattle.wasm_syntax.specs.Run.{table_min}
use Rattle.rewrite_bodies.specs.calls.Slots.{Place, Spilled, Ctx, less, kind_at, offset_at, measured}
use Rattle.rewrite_bodies.specs.calls.Pieces.{get, set, const, i32, call, fetch, load, keep, store, reload, drops}
use Rattle.rewrite_bodies.specs.calls.Rewrite.{to_exit, unwind, test_flag, hand, hand_top, hand_left, test_both, after_call, after_direct, call_code, helper_of, past_shown, indirect_code}
use Rattle.rewrite_bodies.specs.calls.Guards.{measure, renew_both}
use Rattle.rewrite_code.specs.calls.Writing.{Written, Emits, EmitsLast, Opens, Closes}
use Rattle.rewrite_code.proofs.Pieces.{emits_then, emits_last, emits_stop, emits_within}
use Rattle.rewrite_code.specs.declared.place.OperandPlace.{OperandPlace}
use Rattle.rewrite_code.specs.calls.Places.{from_top}
use Rattle.rewrite_code.proofs.Loads.{emits_same, discarded, length_from_top, hand_whole}
use Rattle.unwind_rewrite.proofs.Numbers.{get_at, set_at, call_at}
use Rattle.unwind_rewrite.proofs.Branching.{less_length}

pub came_back : (C : Ctx) (pass : Bool) (ls : ℕ) (r : Option ValType) (es : List Place) (o : ℕ) {a b c d : Written} → Emits (keep pass C (option_map Spilled r) es) a b → Emits (test_flag C ls es o) b c → Emits (measure (measured C) C) c d → Emits (λ k. after_call C ls r es o pass (λ left. k)) a d
came_back C pass ls r es o p q m = emits_same (λ k. refl) (emits_then p (emits_then q m))

-- what stands behind a call of a function of this type
abbrev pub behind : Ctx → Bool → ℕ → List Place → ℕ → ℕ → FuncType → Nodes → Nodes
behind C pass ls es o f type k = after_direct (nat_lt f (import_count C.source)) C ls (result_of type) (less (length type.params) es) o pass (λ left. k)

pub came_import : (C : Ctx) (pass : Bool) (ls : ℕ) (es : List Place) (o f : ℕ) (type : FuncType) (n : ℕ) (r : Option ValType) {a b c : Written} → n ≡ length type.params → r ≡ result_of type → nat_lt f (import_count C.source) ≡ true →
    Emits (keep pass C (option_map Spilled r) (less n es)) a b → Emits (renew_both C) b c → Emits (behind C pass ls es o f type) a c
came_import C pass ls es o f type n r {a} {b} {c} count gives is p w =
    let one : Emits (keep pass C (option_map Spilled r) (less (length type.params) es)) a b = subst (λ n. Emits (keep pass C (option_map Spilled r) (less n es)) a b) count p in
    let two : Emits (keep pass C (option_map Spilled (result_of type)) (less (length type.params) es)) a b = subst (λ r. Emits (keep pass C (option_map Spilled r) (less (length type.params) es)) a b) gives one in
    subst (λ i. Emits (λ k. after_direct i C ls (result_of type) (less (length type.params) es) o pass (λ left. k)) a c) (sym is) (emits_same (λ k. refl) (emits_then two w))

pub came_defined : (C : Ctx) (pass : Bool) (ls : ℕ) (es : List Place) (o f : ℕ) (type : FuncType) (n : ℕ) (r : Option ValType) {a b : Written} → n ≡ length type.params → r ≡ result_of type → nat_lt f (import_count C.source) ≡ false →
    Emits (λ k. after_call C ls r (less n es) o pass (λ left. k)) a b → Emits (behind C pass ls es o f type) a b
came_defined C pass ls es o f type n r {a} {b} count gives is p =
    let one : Emits (λ k. after_call C ls r (less (length type.params) es) o pass (λ left. k)) a b = subst (λ n. Emits (λ k. after_call C ls r (less n es) o pass (λ left. k)) a b) count p in
    let two : Emits (λ k. after_call C ls (result_of type) (less (length type.params) es) o pass (λ left. k)) a b = subst (λ r. Emits (λ k. after_call C ls r (less (length type.params) es) o pass (λ left. k)) a b) gives one in
    subst (λ i. Emits (λ k. after_direct i C ls (result_of type) (less (length type.params) es) o pass (λ left. k)) a b) (sym is) (emits_same (λ k. refl) two)

pub called : (C : Ctx) (pass : Bool) (ls : ℕ) (es : List Place) (o f g : ℕ) (type : FuncType) {a b c : Written} → g ≡ mapped C.source f →
    Emits (call g) a b → Emits (behind C pass ls es o f type) b c → Emits (λ k. call_code C ls es o f (Some type) pass (λ left. k)) a c
called C pass ls es o f g type is p q = emits_same (λ k. refl) (emits_then (call_at is p) q)

pub caller_unwound : (C : Ctx) (ls : ℕ) (es : List Place) (o : ℕ) {a b c d e : Written} → Emits (λ k. const (i32 0) (set C (kind_at C) k)) a b → Emits (λ k. const (i32 o) (set C (offset_at C) k)) b c →
    Emits (hand C es) c d → EmitsLast (to_exit C ls) d e → EmitsLast (const (i32 0) (set C (kind_at C) (unwind C ls es o))) a e
caller_unwound C ls es o p q r s = emits_last p (emits_last q (emits_last r s))

pub left_handed : (C : Ctx) (ls : ℕ) (es all : List Place) (n x : ℕ) {a b c d e f g : Written} → x ≡ kind_at C → Emits (hand C es) a b → Emits (get C x) b c →
    Opens (λ arm k. choose 0 None arm None stop 0 k) c d → Emits (hand_top C n all) d e → Closes e f → EmitsLast (to_exit C ls) f g → EmitsLast (hand_left C ls es (hand_top C n all stop)) a g
left_handed C ls es all n x at p q o h j l = emits_last p (emits_last (get_at C at q) (emits_last (emits_within o (emits_stop h) j) l))

pub both_tested : (C : Ctx) (ls : ℕ) (es : List Place) (o x : ℕ) (others : Nodes) {a b c d e f g : Written} → x ≡ kind_at C → Emits (get C x) a b → Emits (basic 0 (GlobalGet (flag_of C.source))) b c →
    Emits (basic 0 (Binary I32 Or)) c d → Opens (λ arm k. choose 0 None arm None stop 0 k) d e → EmitsLast (const (i32 o) (set C (offset_at C) (hand_left C ls es others))) e f → Closes f g →
    Emits (test_both C ls es o others) a g
both_tested C ls es o x others at p q r op i j = emits_then (get_at C at p) (emits_then q (emits_then r (emits_within op i j)))

pub entry_guarded : (C : Ctx) (e : Place) (h f x y : ℕ) {a c d g j : Written} → x ≡ kind_at C → y ≡ kind_at C → Emits (λ k. fetch C e h (call f k)) a c → Emits (set C x) c d → Emits (get C y) d g → Emits (basic 0 (Eqz I32)) g j →
    Emits (λ k. fetch C e h (call f (set C (kind_at C) (get C (kind_at C) (basic 0 (Eqz I32) k))))) a j
entry_guarded C e h f x y at there p r s t = emits_then p (emits_then (set_at C at r) (emits_then (get_at C there s) t))

-- the index of an entry is moved where the table is doubled
pub moved : (C : Ctx) (q : Bool) (n : ℕ) {a b c : Written} → q ≡ doubles C.source → n ≡ table_min C.source.tables → q ≡ true → Emits (const (i32 n)) a b → Emits (basic 0 (Binary I32 Add)) b c → Emits (past_shown (doubles C.source) C) a c
moved C q n {a} {b} {c} d e t p r =
    let pushed : Emits (const (i32 (table_min C.source.tables))) a b = subst (λ n. Emits (const (i32 n)) a b) e p in
    subst (λ z. Emits (past_shown z C) a c) (sym t ∙ d) (emits_same (λ k. refl) (emits_then pushed r))

pub unmoved : (C : Ctx) (q : Bool) {a : Written} → q ≡ doubles C.source → q ≡ false → Emits (past_shown (doubles C.source) C) a a
unmoved C q {a} d f = subst (λ z. Emits (past_shown z C) a a) (sym f ∙ d) (record { emitted = λ k behind. refl })

pub entry_called : (C : Ctx) (n t : ℕ) (r : Option ValType) (es : List Place) {a b c d e : Written} → Emits (load C n es) a b → Emits (past_shown (doubles C.source) C) b c → Emits (jump 0 (CallIndirect t)) c d → Emits (store C r (less n es)) d e →
    EmitsLast (load C n es (past_shown (doubles C.source) C (jump 0 (CallIndirect t) (store C r (less n es) stop)))) a e
entry_called C n t r es p m q s = emits_last p (emits_last m (emits_last q (emits_stop s)))

-- the call where the verdict is none, and what stands behind the test of both
abbrev pub sound_call : Ctx → ℕ → List Place → ℕ → Option ValType → List Place → Nodes → Nodes
sound_call C n all t r left k = choose 0 None (load C n all (past_shown (doubles C.source) C (jump 0 (CallIndirect t) (store C r left stop)))) None stop 0 k

abbrev pub ended_call : Ctx → ℕ → Option ValType → List Place → Nodes → Nodes
ended_call C n r left k = drops n (renew_both C (reload C r left k))

pub through_table : (C : Ctx) (ls : ℕ) (all : List Place) (e p : Place) (es : List Place) (o t f h n : ℕ) (type : FuncType) (r : Option ValType) {a b c d g : Written} → f ≡ helper_of C t → all ≡ e ∷ es → Some p ≡ slice_get all 0 →
    h ≡ length all - 1 → n ≡ suc (length type.params) → r ≡ result_of type →
    Emits (λ k. fetch C p h (call f (set C (kind_at C) (get C (kind_at C) (basic 0 (Eqz I32) k))))) a b → Emits (sound_call C n all t r (less n all)) b c →
    Emits (test_both C ls (less n all) o (hand_top C n all stop)) c d → Emits (ended_call C n r (less n all)) d g → Emits (λ k. indirect_code C ls all o t (Some type) (λ behind. k)) a g
through_table C ls all e p es o t f h n type r {a} {b} {c} {d} {g} helps is top at count gives q l tb re =
    let m = length type.params in
    let same : p ≡ e = some_same (top ∙ ap (λ l. slice_get l 0) is) in
    let height : h ≡ length es = at ∙ ap (λ l. length l - 1) is ∙ omega arith in
    let q1 : Emits (λ k. fetch C e h (call f (set C (kind_at C) (get C (kind_at C) (basic 0 (Eqz I32) k))))) a b = subst (λ p. Emits (λ k. fetch C p h (call f (set C (kind_at C) (get C (kind_at C) (basic 0 (Eqz I32) k))))) a b) same q in
    let q2 : Emits (λ k. fetch C e (length es) (call f (set C (kind_at C) (get C (kind_at C) (basic 0 (Eqz I32) k))))) a b = subst (λ h. Emits (λ k. fetch C e h (call f (set C (kind_at C) (get C (kind_at C) (basic 0 (Eqz I32) k))))) a b) height q1 in
    let q3 : Emits (λ k. fetch C e (length es) (call (helper_of C t) (set C (kind_at C) (get C (kind_at C) (basic 0 (Eqz I32) k))))) a b = subst (λ f. Emits (λ k. fetch C e (length es) (call f (set C (kind_at C) (get C (kind_at C) (basic 0 (Eqz I32) k))))) a b) helps q2 in
    let l1 : Emits (sound_call C (suc m) all t r (less (suc m) all)) b c = subst (λ n. Emits (sound_call C n all t r (less n all)) b c) count l in
    let l2 : Emits (sound_call C (suc m) (e ∷ es) t r (less m es)) b c = subst (λ l. Emits (sound_call C (suc m) l t r (less (suc m) l)) b c) is l1 in
    let l3 : Emits (sound_call C (suc m) (e ∷ es) t (result_of type) (less m es)) b c = subst (λ r. Emits (sound_call C (suc m) (e ∷ es) t r (less m es)) b c) gives l2 in
    let t1 : Emits (test_both C ls (less (suc m) all) o (hand_top C (suc m) all stop)) c d = subst (λ n. Emits (test_both C ls (less n all) o (hand_top C n all stop)) c d) count tb in
    let t2 : Emits (test_both C ls (less m es) o (hand_top C (suc m) (e ∷ es) stop)) c d = subst (λ l. Emits (test_both C ls (less (suc m) l) o (hand_top C (suc m) l stop)) c d) is t1 in
    let r1 : Emits (ended_call C (suc m) r (less (suc m) all)) d g = subst (λ n. Emits (ended_call C n r (less n all)) d g) count re in
    let r2 : Emits (ended_call C (suc m) r (less m es)) d g = subst (λ l. Emits (ended_call C (suc m) r (less (suc m) l)) d g) is r1 in
    let r3 : Emits (ended_call C (suc m) (result_of type) (less m es)) d g = subst (λ r. Emits (ended_call C (suc m) r (less m es)) d g) gives r2 in
    let whole : Emits (λ k. indirect_code C ls (e ∷ es) o t (Some type) (λ behind. k)) a g = emits_same (λ k. refl) (emits_then q3 (emits_then l3 (emits_then t2 r3))) in
    subst (λ l. Emits (λ k. indirect_code C ls l o t (Some type) (λ behind. k)) a g) (sym is) whole
  where
    some_same : {p q : Place} → Some p ≡ Some q → p ≡ q
    some_same e = cc

pub no_entry : (P : Type 0) (all : List Place) (e : Place) (es : List Place) → all ≡ e ∷ es → None ≡ slice_get all 0 → P
no_entry P all e es is top = absurd (let no : None ≡ Some e = top ∙ ap (λ l. slice_get l 0) is in cc)

-- all operands under so many were handed over
pub under_handed : (C : Ctx) (xs : List OperandPlace) (es : List Place) (m h kept : ℕ) {a b : Written} → from_top xs ≡ es → kept ≡ length xs - m → kept ≤ h → h ≤ kept →
    Emits (hand_top C (h - 0) (from_top (take h xs))) a b → Emits (hand C (less m es)) a b
under_handed C xs es m h kept {a} {b} e d le ge p =
    let at : h ≡ length xs - m = omega (arith, d, le, ge) in
    let all : h - 0 ≡ h = omega arith in
    let under : from_top (take h xs) ≡ less m es = ap (λ k. from_top (take k xs)) at ∙ discarded xs m ∙ ap (less m) e in
    let count : h ≡ length (less m es) = at ∙ ap (λ n. n - m) (sym (length_from_top xs) ∙ ap length e) ∙ sym (less_length m es) in
    hand_whole C (less m es) h count (subst (λ l. Emits (hand_top C h l) a b) under (subst (λ n. Emits (hand_top C n (from_top (take h xs))) a b) all p))
