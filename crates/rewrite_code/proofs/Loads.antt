-- Operands that are loaded or handed over from the lowest on, and code that unwinds.
use Rattle.std.proofs.Common.{◌≡◌, ℕ, zero, suc, ◌+◌, ◌-◌, ◌<◌, ◌≤◌, List, [], ◌∷◌, ◌++◌, length, map, reverse, take, drop, get_or, Bool, true, false, None, OnOk, Ok, Err, refl, sym, ap, subst, ◌∙◌, arith, take_all, Some}
use Rattle.std.proofs.lemmas.List.{length-map, length-reverse, reverse-append, map-append, length-take-le, length-drop, take-append-drop}
use Rattle.std.proofs.Math.Seq.{take-suc, drop-cons}
use Rattle.std.specs.declared.result.Result.{Result}
use Rattle.wasm_syntax.specs.declared.value.ValType.{ValType}
use Rattle.wasm_syntax.specs.declared.instruction.Basic.TheVariants.{Drop, LocalGet, LocalTee}
use Rattle.wasm_syntax.specs.Tree.{Br, BrIf, Nodes, stop, basic, jump, choose}
use Rattle.rewrite_bodies.specs.calls.Slots.{Place, Ctx, less, place_type, slot, kind_at, offset_at}
use Rattle.rewrite_bodies.specs.calls.Pieces.{set, const, i32, fetch, load, keep_slot, spill_one, spill, drops}
use Rattle.rewrite_bodies.specs.calls.Rewrite.{hand, hand_top, hand_value, hand_locals, to_exit, unwind, unwind_kind, checked, get_flag}
use Rattle.rewrite_code.specs.calls.Writing.{Written, Behind, goes, Emits, EmitsLast, Opens, Closes}
use Rattle.rewrite_code.proofs.Pieces.{emits_then, emits_last, emits_stop, emits_within}
use Rattle.rewrite_code.specs.declared.place.OperandPlace.{OperandPlace}
use Rattle.rewrite_code.specs.calls.Places.{place, from_top}

-- a fact in the place of another, where there is a value
pub when_ok : {T E P Q : Type 0} → (P → Q) → (r : Result T E) → OnOk r P → OnOk r Q
when_ok f (Ok x) p = f p
when_ok f (Err e) p = tt

pub emits_same : {P Q : Nodes → Nodes} {a b : Written} → ((k : Nodes) → P k ≡ Q k) → Emits Q a b → Emits P a b
emits_same {a = a} same e = record { emitted = λ k behind. ap (λ nodes. goes a nodes behind) (same k) ∙ e.emitted k behind }

-- ---- the operands up to a height, seen from the top

pub length_from_top : (xs : List OperandPlace) → length (from_top xs) ≡ length xs
length_from_top xs = length-reverse (map place xs) ∙ length-map xs place

less_all : (m : ℕ) (es : List Place) → length es ≤ m → less m es ≡ []
less_all zero [] le = refl
less_all zero (e ∷ es) le = absurd (omega (arith, le))
less_all (suc m) [] le = refl
less_all (suc m) (e ∷ es) le = less_all m es (omega (arith, le))

less_front : (above below : List Place) → less (length above) (above ++ below) ≡ below
less_front [] below = refl
less_front (e ∷ es) below = less_front es below

split_at : (n : ℕ) (xs : List OperandPlace) → from_top xs ≡ from_top (drop n xs) ++ from_top (take n xs)
split_at n xs =
    ap from_top (sym (take-append-drop n xs)) ∙ ap reverse (map-append place (take n xs) (drop n xs)) ∙ reverse-append (map place (take n xs)) (map place (drop n xs))

pub discarded : (xs : List OperandPlace) (m : ℕ) → from_top (take (length xs - m) xs) ≡ less m (from_top xs)
discarded xs m = by_left (length xs - m) refl
  where
    by_left : (k : ℕ) → length xs - m ≡ k → from_top (take k xs) ≡ less m (from_top xs)
    by_left zero e = sym (less_all m (from_top xs) (omega (arith, e, length_from_top xs)))
    by_left (suc k) e =
        let above : length (from_top (drop (suc k) xs)) ≡ m = omega (arith, e, length_from_top (drop (suc k) xs), length-drop (suc k) xs) in
        sym (ap (less m) (split_at (suc k) xs)
        ∙ ap (λ n. less n (from_top (drop (suc k) xs) ++ from_top (take (suc k) xs))) (sym above)
        ∙ less_front (from_top (drop (suc k) xs)) (from_top (take (suc k) xs)))

pub one_more : (xs : List OperandPlace) (h : ℕ) (d : OperandPlace) → h < length xs → from_top (take (suc h) xs) ≡ place (get_or xs h d) ∷ from_top (take h xs)
one_more xs h d lt =
    ap from_top (take-suc xs h d lt) ∙ ap reverse (map-append place (take h xs) (get_or xs h d ∷ [])) ∙ reverse-append (map place (take h xs)) (place (get_or xs h d) ∷ [])

-- what a step of the loop adds, where so many operands below were passed by
pub step : (L : ℕ → List Place → Nodes → Nodes) (F : Place → ℕ → Nodes → Nodes) →
    ((m : ℕ) (e : Place) (es : List Place) (k : Nodes) → L (suc m) (e ∷ es) k ≡ L m es (F e (length es) k)) →
    (xs : List OperandPlace) (h first : ℕ) (d : OperandPlace) → h < length xs → first ≤ h → (k : Nodes) →
    L (h + 1 - first) (from_top (take (h + 1) xs)) k ≡ L (h - first) (from_top (take h xs)) (F (place (get_or xs h d)) h k)
step L F more xs h first d lt le k =
    let one : h + 1 ≡ suc h = omega arith in
    let n : h + 1 - first ≡ suc (h - first) = omega (arith, le) in
    let len : length (from_top (take h xs)) ≡ h = length_from_top (take h xs) ∙ length-take-le h xs (omega (arith, lt)) in
    ap (λ m. L m (from_top (take (h + 1) xs)) k) n
    ∙ ap (λ j. L (suc (h - first)) (from_top (take j xs)) k) one
    ∙ ap (λ es. L (suc (h - first)) es k) (one_more xs h d lt)
    ∙ more (h - first) (place (get_or xs h d)) (from_top (take h xs)) k
    ∙ ap (λ m. L (h - first) (from_top (take h xs)) (F (place (get_or xs h d)) m k)) len

-- so many of the topmost are those from the height on where the loop begins
pub from_first : (L : ℕ → List Place → Nodes → Nodes) (F : Place → ℕ → Nodes → Nodes) →
    ((es : List Place) (k : Nodes) → L zero es k ≡ k) → ((m : ℕ) (k : Nodes) → L m [] k ≡ k) →
    ((m : ℕ) (e : Place) (es : List Place) (k : Nodes) → L (suc m) (e ∷ es) k ≡ L m es (F e (length es) k)) →
    (m : ℕ) (es : List Place) (k : Nodes) → L m es k ≡ L (length es - (length es - m)) es k
from_first L F none empty more m [] k = empty m k ∙ sym (empty (zero - (zero - m)) k)
from_first L F none empty more zero (e ∷ es) k =
    let n : suc (length es) - (suc (length es) - zero) ≡ zero = omega arith in
    sym (ap (λ j. L j (e ∷ es) k) n)
from_first L F none empty more (suc m) (e ∷ es) k =
    let n : suc (length es) - (suc (length es) - suc m) ≡ suc (length es - (length es - m)) = omega arith in
    more m e es k ∙ from_first L F none empty more m es (F e (length es) k) ∙ sym (more (length es - (length es - m)) e es k) ∙ sym (ap (λ j. L j (e ∷ es) k) n)

-- all turns of the loop
pub done : (L : ℕ → List Place → Nodes → Nodes) (F : Place → ℕ → Nodes → Nodes) →
    ((es : List Place) (k : Nodes) → L zero es k ≡ k) → ((m : ℕ) (k : Nodes) → L m [] k ≡ k) →
    ((m : ℕ) (e : Place) (es : List Place) (k : Nodes) → L (suc m) (e ∷ es) k ≡ L m es (F e (length es) k)) →
    (xs : List OperandPlace) (es : List Place) (m h first : ℕ) → from_top xs ≡ es → length xs ≤ h → h ≤ length xs → first ≡ length xs - m → (k : Nodes) →
    L m es k ≡ L (h - first) (from_top (take h xs)) k
done L F none empty more xs es m h first e ge le f k =
    let n : length es - (length es - m) ≡ h - first = omega (arith, ge, le, f, length_from_top xs, ap length e) in
    let l : es ≡ from_top (take h xs) = sym e ∙ ap from_top (sym (take_all h xs ge)) in
    from_first L F none empty more m es k ∙ ap (λ j. L j es k) n ∙ ap (λ l. L (h - first) l k) l

-- ---- loading

pub load_empty : (C : Ctx) (m : ℕ) (k : Nodes) → load C m [] k ≡ k
load_empty C zero k = refl
load_empty C (suc m) k = refl

pub load_step : (C : Ctx) (xs : List OperandPlace) (h first : ℕ) (d : OperandPlace) {a b c : Written} → h < length xs → first ≤ h →
    Emits (load C (h - first) (from_top (take h xs))) a b → Emits (fetch C (place (get_or xs h d)) h) b c → Emits (load C (h + 1 - first) (from_top (take (h + 1) xs))) a c
load_step C xs h first d lt le p q =
    emits_same (step (load C) (fetch C) (λ m e es k. refl) xs h first d lt le) (emits_then p q)

pub load_done : (C : Ctx) (xs : List OperandPlace) (es : List Place) (m h first : ℕ) {a b : Written} → from_top xs ≡ es → length xs ≤ h → h ≤ length xs → first ≡ length xs - m →
    Emits (load C (h - first) (from_top (take h xs))) a b → Emits (load C m es) a b
load_done C xs es m h first e ge le f p = emits_same (done (load C) (fetch C) (λ es k. refl) (load_empty C) (λ m e es k. refl) xs es m h first e ge le f) p

-- ---- handing over

abbrev pub hand_piece : Ctx → Place → ℕ → Nodes → Nodes
hand_piece C e h k = fetch C e h (hand_value C (place_type e) k)

pub hand_empty : (C : Ctx) (m : ℕ) (k : Nodes) → hand_top C m [] k ≡ k
hand_empty C zero k = refl
hand_empty C (suc m) k = refl

pub hand_step : (C : Ctx) (xs : List OperandPlace) (h first : ℕ) (d : OperandPlace) {a b c : Written} → h < length xs → first ≤ h →
    Emits (hand_top C (h - first) (from_top (take h xs))) a b → Emits (λ k. fetch C (place (get_or xs h d)) h (hand_value C (place_type (place (get_or xs h d))) k)) b c →
    Emits (hand_top C (h + 1 - first) (from_top (take (h + 1) xs))) a c
hand_step C xs h first d lt le p q =
    emits_same (step (hand_top C) (hand_piece C) (λ m e es k. refl) xs h first d lt le) (emits_then p q)

pub hand_done : (C : Ctx) (xs : List OperandPlace) (es : List Place) (m h first : ℕ) {a b : Written} → from_top xs ≡ es → length xs ≤ h → h ≤ length xs → first ≡ length xs - m →
    Emits (hand_top C (h - first) (from_top (take h xs))) a b → Emits (hand_top C m es) a b
hand_done C xs es m h first e ge le f p = emits_same (done (hand_top C) (hand_piece C) (λ es k. refl) (hand_empty C) (λ m e es k. refl) xs es m h first e ge le f) p

-- all operands are those on top
whole_hand : (C : Ctx) (es : List Place) (k : Nodes) → hand C es k ≡ hand_top C (length es) es k
whole_hand C [] k = refl
whole_hand C (e ∷ es) k = whole_hand C es (hand_piece C e (length es) k)

pub hand_whole : (C : Ctx) (es : List Place) (n : ℕ) {a b : Written} → n ≡ length es → Emits (hand_top C n es) a b → Emits (hand C es) a b
hand_whole C es n e p = emits_same (λ k. whole_hand C es k ∙ ap (λ m. hand_top C m es k) (sym e)) p

-- a turn of the loop over the locals
pub local_step : (C : Ctx) (ls : List ValType) (x : ℕ) (d : ValType) {a b c : Written} → x < length ls → Emits (basic 0 (LocalGet x)) a b → Emits (hand_value C (get_or ls x d)) b c →
    (k : Nodes) (behind : List Behind) → goes a (hand_locals C x (drop x ls) k) behind ≡ goes c (hand_locals C (x + 1) (drop (x + 1) ls) k) behind
local_step C ls x d {a} {b} {c} lt p q k behind =
    let one : suc x ≡ x + 1 = omega arith in
    let others : Nodes = hand_locals C (suc x) (drop (suc x) ls) k in
    ap (λ l. goes a (hand_locals C x l k) behind) (drop-cons ls x d lt)
    ∙ p.emitted (hand_value C (get_or ls x d) others) behind ∙ q.emitted others behind
    ∙ ap (λ n. goes c (hand_locals C n (drop n ls) k) behind) one

-- ---- results

pub own_and_slot : (C : Ctx) (t : ValType) (l height y : ℕ) {a b c : Written} → y ≡ slot C.slots t height → Emits (basic 0 (LocalGet l)) a b → Emits (set C y) b c →
    Emits (λ k. basic 0 (LocalGet l) (set C (slot C.slots t height) k)) a c
own_and_slot C t l height y d p q = emits_same (λ k. ap (λ y. basic 0 (LocalGet l) (set C y k)) (sym d)) (emits_then p q)

-- a result that is kept, or not
pub kept_in : (C : Ctx) (q : Bool) (t : ValType) (height x : ℕ) (es : List Place) {a b : Written} → q ≡ false → x ≡ slot C.slots t height → length es ≡ height → Emits (basic 0 (LocalTee (length C.locals + x))) a b → Emits (keep_slot q C t es) a b
kept_in C q t height x es {a} {b} is e d p = subst (λ q. Emits (keep_slot q C t es) a b) (sym is) (subst (λ y. Emits (basic 0 (LocalTee (length C.locals + y))) a b) (e ∙ ap (slot C.slots t) (sym d)) p)

pub passed_on : (C : Ctx) (q : Bool) (t : ValType) (es : List Place) {a : Written} → q ≡ true → Emits (keep_slot q C t es) a a
passed_on C q t es {a} is = subst (λ q. Emits (keep_slot q C t es) a a) (sym is) (record { emitted = λ k behind. refl })

-- ---- copies that go to their slots

pub spill_step : (C : Ctx) (these : ℕ → Bool) (xs : List OperandPlace) (h : ℕ) (d : OperandPlace) {a b c : Written} → h < length xs →
    Emits (spill C these (from_top (take h xs))) a b → Emits (spill_one C these (place (get_or xs h d)) h) b c → Emits (spill C these (from_top (take (h + 1) xs))) a c
spill_step C these xs h d lt p q =
    emits_same (step (λ m es k. spill C these es k) (spill_one C these) (λ m e es k. refl) xs h 0 d lt (omega arith)) (emits_then p q)

pub spill_done : (C : Ctx) (these : ℕ → Bool) (xs : List OperandPlace) (es : List Place) (m h : ℕ) {a b : Written} → from_top xs ≡ es → h ≡ length xs - m →
    Emits (spill C these (from_top (take h xs))) a b → Emits (spill C these (less m es)) a b
spill_done C these xs es m h {a} {b} e f p =
    subst (λ z. Emits (spill C these z) a b) (ap (λ n. from_top (take n xs)) f ∙ discarded xs m ∙ ap (less m) e) p

-- ---- operands that are dropped

drops_more : (n : ℕ) (k : Nodes) → drops (suc n) k ≡ drops n (basic 0 Drop k)
drops_more zero k = refl
drops_more (suc n) k = ap (λ z. basic 0 Drop z) (drops_more n k)

pub drop_step : (n : ℕ) {a b c : Written} → Emits (drops n) a b → Emits (basic 0 Drop) b c → Emits (drops (n + 1)) a c
drop_step n p q =
    let one : n + 1 ≡ suc n = omega arith in
    emits_same (λ k. ap (λ m. drops m k) one ∙ drops_more n k) (emits_then p q)

-- ---- the exit

pub exit_branch : (C : Ctx) (d n : ℕ) {a b : Written} → n ≡ length C.landings → Emits (λ k. jump 0 (Br (d + n + 1)) k) a b → EmitsLast (to_exit C d) a b
exit_branch C d n {a} {b} e p =
    let same : d + n + 1 ≡ suc (d + length C.landings) = omega (arith, e) in
    subst (λ l. EmitsLast (jump 0 (Br l) stop) a b) same (emits_stop p)

-- the code offset is kept
abbrev pub offset_kept : Ctx → ℕ → Nodes → Nodes
offset_kept C o k = const (i32 o) (set C (offset_at C) k)

pub keeps_offset : (C : Ctx) (o x : ℕ) {a b c : Written} → x ≡ offset_at C → Emits (const (i32 o)) a b → Emits (set C x) b c → Emits (offset_kept C o) a c
keeps_offset C o x {b = b} {c = c} at p q = emits_then p (subst (λ y. Emits (set C y) b c) at q)

pub unwound : (C : Ctx) (l : ℕ) (es : List Place) (o : ℕ) {a b c d : Written} → Emits (offset_kept C o) a b → Emits (hand C es) b c → EmitsLast (to_exit C l) c d → EmitsLast (unwind C l es o) a d
unwound C l es o p q r = emits_last p (emits_last q r)

-- a guard that goes to a landing
pub landed : (C : Ctx) (l n : ℕ) (es : List Place) (o : ℕ) (test says_kind : Nodes → Nodes) {a b c d : Written} → Emits (offset_kept C o) a b → Emits test b c → Emits (jump 0 (BrIf (l + n))) c d → Emits (checked (Some n) C l es o test says_kind) a d
landed C l n es o test says_kind p q r = emits_then p (emits_then q r)

pub flag_tested : (C : Ctx) (l : ℕ) (es : List Place) (o : ℕ) {a b c d e : Written} → Emits (get_flag C) a b → Opens (λ arm k. choose 0 None arm None stop 0 k) b c →
    EmitsLast (const (i32 0) (set C (kind_at C) (unwind C l es o))) c d → Closes d e → Emits (checked None C l es o (get_flag C) (const (i32 0))) a e
flag_tested C l es o p q r s = emits_then p (emits_within q r s)

pub kind_kept : (C : Ctx) (l : ℕ) (es : List Place) (o x : ℕ) {a b c : Written} → x ≡ kind_at C → Emits (set C x) a b → EmitsLast (unwind C l es o) b c → EmitsLast (unwind_kind C l es o) a c
kind_kept C l es o x {a} {b} at p q = emits_last (subst (λ y. Emits (set C y) a b) at p) q
