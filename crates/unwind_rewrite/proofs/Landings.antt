-- The blocks of landings around a body are written.
use Rattle.std.proofs.Common.{◌≡◌, ℕ, suc, ◌+◌, ◌-◌, ◌<◌, ◌≤◌, List, [], ◌∷◌, ◌++◌, length, length-append, take, drop, map, Option, Some, None, refl, sym, ap, ◌∙◌, subst, arith, slice_get, get_or}
use Rattle.std.proofs.lemmas.List.{length-drop, length-map, get_or-map, take_all, drop_all}
use Rattle.std.proofs.lemmas.Option.{slice_get-get_or}
use Rattle.std.proofs.Math.Seq.{take-suc, drop-cons}
use Rattle.wasm_syntax.specs.declared.value.ValType.{ValType}
use Rattle.wasm_syntax.specs.Tree.{Br, Return, Nodes, stop, jump, block}
use Rattle.rewrite_bodies.specs.calls.Slots.{Landing, Ctx, kind_at, measured}
use Rattle.rewrite_bodies.specs.calls.Guards.{measure}
use Rattle.rewrite_bodies.specs.calls.Pieces.{set, const, i32}
use Rattle.rewrite_bodies.specs.calls.Rewrite.{hand, hand_carried, landing_code, nested, exit_code, rewrite, laid}
use Rattle.rewrite_code.specs.calls.Writing.{Written, Behind, ends, goes, Emits, EmitsLast, Opens, Closes}
use Rattle.rewrite_code.proofs.Pieces.{emits_last, emits_stop}
use Rattle.unwind_rewrite.specs.calls.Bodies.{behind_landings, OpensNested, ClosesNested, LowLandings, OpensBody}
use Rattle.rewrite_code.specs.declared.landing.Landing.{Landing as Kept}
use Rattle.rewrite_code.specs.calls.KeptLandings.{landing}

pub landing_written : (C : Ctx) (x : Landing) (n k : ℕ) {a b c d e f : Written} → k ≡ kind_at C → Emits (const (i32 x.kind)) a b → Emits (set C k) b c → Emits (hand C x.places) c d → Emits (hand_carried C x.carried) d e →
    Emits (jump 0 (Br n)) e f → EmitsLast (landing_code C n x) a f
landing_written C x n k {b = b} {c = c} at p q r s t = emits_last p (emits_last (subst (λ y. Emits (set C y) b c) at q) (emits_last r (emits_last s (emits_stop t))))

-- ---- the blocks, with so many others outside of them

abbrev pub nest : Ctx → ℕ → List Landing → Nodes → Nodes
nest C k [] inner = inner
nest C k (x ∷ xs) inner = nest C k xs (block 0 x.carried inner 0 (landing_code C (length xs + k) x))

nest_all : (C : Ctx) (xs : List Landing) (inner : Nodes) → nested C xs inner ≡ nest C 0 xs inner
nest_all C [] inner = refl
nest_all C (x ∷ xs) inner =
    let z : length xs ≡ length xs + 0 = omega arith in
    nest_all C xs (block 0 x.carried inner 0 (landing_code C (length xs) x)) ∙ ap (λ n. nest C 0 xs (block 0 x.carried inner 0 (landing_code C n x))) z

-- the last one is the outermost
nest_last : (C : Ctx) (k : ℕ) (xs : List Landing) (y : Landing) (inner : Nodes) → nest C k (xs ++ y ∷ []) inner ≡ block 0 y.carried (nest C (suc k) xs inner) 0 (landing_code C k y)
nest_last C k [] y inner = let z : 0 + k ≡ k = omega arith in ap (λ n. block 0 y.carried inner 0 (landing_code C n y)) z
nest_last C k (x ∷ xs) y inner =
    let z : length (xs ++ y ∷ []) + k ≡ length xs + suc k = omega (arith, length-append xs (y ∷ [])) in
    ap (λ n. nest C k (xs ++ y ∷ []) (block 0 x.carried inner 0 (landing_code C n x))) z ∙ nest_last C k xs y (block 0 x.carried inner 0 (landing_code C (length xs + suc k) x))

-- what the loop that opens them has come to, where so many are still to be opened
abbrev pub Opening : Ctx → List Landing → ℕ → Written → Written → Type 0
Opening C xs left old new = (inner : Nodes) (behind : List Behind) → goes old (nested C xs inner) behind ≡ goes new (nest C (length xs - left) (take left xs) inner) (behind_landings C (drop left xs) behind)

-- ---- the body

pub body_opened : (C : Ctx) (gives : Option ValType) {s a b c d : Written} → gives ≡ C.result → Emits (measure (measured C) C) s a → Opens (λ inner k. block 0 None inner 0 k) a b → OpensNested C C.landings b c → Opens (λ inner k. block 0 gives inner 0 k) c d → OpensBody C s d
body_opened C gives {c = c} {d = d} is m p q r nodes k behind =
    m.emitted (block 0 None (nested C C.landings (block 0 C.result nodes 0 k)) 0 (exit_code C)) behind ∙ p.opened (nested C C.landings (block 0 C.result nodes 0 k)) (exit_code C) behind ∙ q (block 0 C.result nodes 0 k) (ends (exit_code C) ∷ behind)
    ∙ (subst (λ t. Opens (λ inner k. block 0 t inner 0 k) c d) is r).opened nodes k (behind_landings C C.landings (ends (exit_code C) ∷ behind))

pub body_closed : (C : Ctx) (nodes : Nodes) {start inside w a b c d e : Written} → OpensBody C start inside → EmitsLast (rewrite C 1 [] nodes) inside w → Closes w a → Emits (jump 0 Return) a b → ClosesNested C C.landings b c → Closes c d →
    EmitsLast (exit_code C) d e → EmitsLast (laid C nodes) start e
body_closed C nodes o n c f l j e =
    let back : Nodes = jump 0 Return stop in
    let returns = emits_stop f in
    record {
      emitted = λ behind.
          o (rewrite C 1 [] nodes) back behind ∙ n.emitted (ends back ∷ behind_landings C C.landings (ends (exit_code C) ∷ behind))
          ∙ c.closed back (behind_landings C C.landings (ends (exit_code C) ∷ behind)) ∙ returns.emitted (behind_landings C C.landings (ends (exit_code C) ∷ behind))
          ∙ l (ends (exit_code C) ∷ behind) ∙ j.closed (exit_code C) behind ∙ e.emitted behind;
    }

-- ---- the ends of the blocks

pub close_step : (C : Ctx) (x : Landing) (xs : List Landing) (n : ℕ) {a b c : Written} → n ≡ length xs → Closes a b → EmitsLast (landing_code C n x) b c → (behind : List Behind) → goes a stop (behind_landings C (x ∷ xs) behind) ≡ goes c stop (behind_landings C xs behind)
close_step C x xs n {b = b} {c = c} is p q behind =
    p.closed (landing_code C (length xs) x) (behind_landings C xs behind) ∙ (subst (λ n. EmitsLast (landing_code C n x) b c) is q).emitted (behind_landings C xs behind)

-- ---- their beginnings, the last one first

pub opening_begin : (C : Ctx) (xs : List Landing) (n : ℕ) (w : Written) → n ≡ length xs → Opening C xs n w w
opening_begin C xs n w e inner behind =
    let none : 0 ≡ length xs - n = omega (arith, e) in
    ap (λ z. goes w z behind) (nest_all C xs inner)
    ∙ ap (λ k. goes w (nest C k xs inner) behind) none
    ∙ ap (λ ys. goes w (nest C (length xs - n) ys inner) behind) (sym (take_all n xs (omega (arith, e))))
    ∙ ap (λ ys. goes w (nest C (length xs - n) (take n xs) inner) (behind_landings C ys behind)) (sym (drop_all n xs (omega (arith, e))))

opening_step : (C : Ctx) (xs : List Landing) (n m : ℕ) (d : Landing) (old : Written) {a b : Written} → n ≡ suc m → m < length xs → Opening C xs n old a → Opens (λ inner k. block 0 (get_or xs m d).carried inner 0 k) a b → Opening C xs m old b
opening_step C xs n m d old {a} {b} e lt o p inner behind =
    let y = get_or xs m d in
    let k = length xs - suc m in
    let up : suc k ≡ length xs - m = omega (arith, lt) in
    let count : k ≡ length (drop (suc m) xs) = sym (length-drop (suc m) xs) in
    let rest = behind_landings C (drop (suc m) xs) behind in
    o inner behind
    ∙ ap (λ j. goes a (nest C (length xs - j) (take j xs) inner) (behind_landings C (drop j xs) behind)) e
    ∙ ap (λ ys. goes a (nest C k ys inner) rest) (take-suc xs m d lt)
    ∙ ap (λ z. goes a z rest) (nest_last C k (take m xs) y inner)
    ∙ p.opened (nest C (suc k) (take m xs) inner) (landing_code C k y) rest
    ∙ ap (λ j. goes b (nest C j (take m xs) inner) (ends (landing_code C k y) ∷ rest)) up
    ∙ ap (λ j. goes b (nest C (length xs - m) (take m xs) inner) (ends (landing_code C j y) ∷ rest)) count
    ∙ ap (λ ys. goes b (nest C (length xs - m) (take m xs) inner) (behind_landings C ys behind)) (sym (drop-cons xs m d lt))

pub opening_done : (C : Ctx) (xs : List Landing) (n : ℕ) (old new : Written) → n ≡ 0 → Opening C xs n old new → OpensNested C xs old new
opening_done C xs n old new e o inner behind = o inner behind ∙ ap (λ j. goes new (nest C (length xs - j) (take j xs) inner) (behind_landings C (drop j xs) behind)) e

-- a landing as it is kept in the list, and as the definitions have it
kept_at : (ks : List Kept) (n : ℕ) (x : Kept) → n < length ks → x ≡ get_or ks n x → landing x ≡ get_or (map landing ks) n (landing x)
kept_at ks n x lt is = ap landing is ∙ sym (get_or-map landing ks n x (landing x) lt)

pub opening_kept : (C : Ctx) (ks : List Kept) (n m : ℕ) (x : Kept) (old : Written) {a b : Written} → n ≡ suc m → m < length ks → x ≡ get_or ks m x → Opening C (map landing ks) n old a → Opens (λ inner k. block 0 x.carried inner 0 k) a b → Opening C (map landing ks) m old b
opening_kept C ks n m x old {a} {b} e lt is o p =
    opening_step C (map landing ks) n m (landing x) old e (omega (arith, lt, length-map ks landing)) o
    (subst (λ (y : Landing). Opens (λ inner k. block 0 y.carried inner 0 k) a b) (kept_at ks m x lt is) p)

-- ---- their ends, the first one first

abbrev pub Closing : Ctx → List Landing → ℕ → Written → Written → Type 0
Closing C xs n old new = (behind : List Behind) → goes old stop (behind_landings C xs behind) ≡ goes new stop (behind_landings C (drop n xs) behind)

pub closing_kept : (C : Ctx) (ks : List Kept) (n others : ℕ) (x : Kept) (old : Written) {a b c : Written} → n < length ks → x ≡ get_or ks n x → others ≡ length ks - 1 - n → Closing C (map landing ks) n old a → Closes a b → EmitsLast (landing_code C others (landing x)) b c → Closing C (map landing ks) (n + 1) old c
closing_kept C ks n others x old {a} {b} {c} lt at is o p q behind =
    let xs = map landing ks in
    let y = get_or xs n (landing x) in
    let count = length-map ks landing in
    let lt' : n < length xs = omega (arith, lt, count) in
    let one : suc n ≡ n + 1 = omega arith in
    let outer : others ≡ length (drop (suc n) xs) = omega (arith, is, lt, count, length-drop (suc n) xs) in
    o behind
    ∙ ap (λ ys. goes a stop (behind_landings C ys behind)) (drop-cons xs n (landing x) lt')
    ∙ close_step C y (drop (suc n) xs) others outer p (subst (λ z. EmitsLast (landing_code C others z) b c) (kept_at ks n x lt at) q) behind
    ∙ ap (λ j. goes c stop (behind_landings C (drop j xs) behind)) one

pub closing_done : (C : Ctx) (xs : List Landing) (n : ℕ) (old new : Written) → length xs ≤ n → Closing C xs n old new → ClosesNested C xs old new
closing_done C xs n old new le o behind = o behind ∙ ap (λ ys. goes new stop (behind_landings C ys behind)) (drop_all n xs le)

-- the operands of a landing that is kept have slots
pub low_kept : (C : Ctx) (ks : List Kept) (n : ℕ) (x : Kept) → map landing ks ≡ C.landings → LowLandings C → n < length ks → x ≡ get_or ks n x → length x.places ≤ C.slots
low_kept C ks n x e low lt is =
    let there : slice_get (map landing ks) n ≡ Some (landing x) = slice_get-get_or (map landing ks) n (landing x) (omega (arith, lt, length-map ks landing)) ∙ ap Some (sym (kept_at ks n x lt is)) in
    low n (landing x) (ap (λ xs. slice_get xs n) (sym e) ∙ there)
