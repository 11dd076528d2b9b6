-- Landings: what a branch to one comes to, and what stays where a guard finds nothing.
use Rattle.std.proofs.Common.{◌≡◌, ℕ, zero, suc, ◌+◌, ◌≤◌, List, [], ◌∷◌, ◌++◌, length, Option, Some, None, Bool, true, false, refl, sym, ap, ap₂, ◌∙◌, subst, arith, ◌≢◌, ◌==◌, slice_get, slice_set, option_map, if◌then◌else◌, ◌&&◌, unwrap_or}
use Rattle.std.proofs.lemmas.Bool.{eqb-true, and_parts}
use Rattle.wasm_syntax.specs.declared.value.ValType.{ValType}
use Rattle.wasm_syntax.specs.declared.value.ValType.TheVariants.{I32}
use Rattle.wasm_syntax.specs.declared.value.Value.{Value}
use Rattle.wasm_syntax.specs.declared.value.Value.TheVariants as values
use Rattle.wasm_syntax.specs.Numbers.{types, same_type}
use Rattle.wasm_syntax.specs.Tree.{BrIf, Return, Nodes, stop, jump}
use Rattle.wasm_syntax.specs.Host.{World}
use Rattle.wasm_syntax.specs.declared.host.CollectorCall.{CollectorCall}
use Rattle.wasm_syntax.specs.Machine.{Kind, leaves, returns, Label, label, Engine, Went, inside, branch, top, same_result}
use Rattle.wasm_syntax.proofs.Types.{same_type_is}
use Rattle.rewrite_bodies.specs.calls.Slots.{Place, Spilled, Known, Copied, Landing, Ctx, offset_at, kind_at, added}
use Rattle.rewrite_bodies.specs.calls.Landings.{same_value, same_place, same_places, same_landing, number_of}
use Rattle.rewrite_bodies.specs.calls.Pieces.{set, const}
use Rattle.rewrite_bodies.specs.calls.Rewrite.{landing_code, exit_code}
use Rattle.rewrite_bodies.specs.calls.Agreement.{awaits, code_at, held, pending, joined, t_kind, l_labels, t_labels, FitsLabels}
use Rattle.rewrite_bodies.specs.calls.Steps.{To, Shell, st}
use Rattle.rewrite_bodies.proofs.Run.{slice_get-put_other, types-slice_set, added_offset, one_step, seq, push_to, added_set}
use Rattle.rewrite_bodies.proofs.Parts.{fits_offset}

-- ---- which landing

same_value_is : (v w : Value) → same_value v w ≡ true → v ≡ w
same_value_is (values.I32 a) (values.I32 b) e = ap values.I32 (eqb-true a b e)
same_value_is (values.I32 a) (values.I64 b) e = absurd (cc)
same_value_is (values.I64 a) (values.I32 b) e = absurd (cc)
same_value_is (values.I64 a) (values.I64 b) e = ap values.I64 (eqb-true a b e)

same_place_is : (e f : Place) → same_place e f ≡ true → e ≡ f
same_place_is (Spilled t) (Spilled u) s = ap Spilled (same_type_is t u s)
same_place_is (Spilled t) (Known w) s = absurd (cc)
same_place_is (Spilled t) (Copied u y) s = absurd (cc)
same_place_is (Known v) (Spilled u) s = absurd (cc)
same_place_is (Known v) (Known w) s = ap Known (same_value_is v w s)
same_place_is (Known v) (Copied u y) s = absurd (cc)
same_place_is (Copied t x) (Spilled u) s = absurd (cc)
same_place_is (Copied t x) (Known w) s = absurd (cc)
same_place_is (Copied t x) (Copied u y) s =
    let p = and_parts (same_type t u) (x == y) s in ap₂ Copied (same_type_is t u p.0) (eqb-true x y p.1)

same_places_are : (es fs : List Place) → same_places es fs ≡ true → es ≡ fs
same_places_are [] [] s = refl
same_places_are [] (f ∷ fs) s = absurd (cc)
same_places_are (e ∷ es) [] s = absurd (cc)
same_places_are (e ∷ es) (f ∷ fs) s =
    let p = and_parts (same_place e f) (same_places es fs) s in ap₂ (λ a b. a ∷ b) (same_place_is e f p.0) (same_places_are es fs p.1)

same_result_is : (a b : Option ValType) → same_result a b ≡ true → a ≡ b
same_result_is None None e = refl
same_result_is None (Some t) e = absurd (cc)
same_result_is (Some t) None e = absurd (cc)
same_result_is (Some t) (Some u) e = ap Some (same_type_is t u e)

pub same_landing_is : (a b : Landing) → same_landing a b ≡ true → a ≡ b
same_landing_is a b s =
    let p = and_parts (same_result a.carried b.carried) ((a.kind == b.kind) && ((a.part == b.part) && same_places a.places b.places)) s in
    let q = and_parts (a.kind == b.kind) ((a.part == b.part) && same_places a.places b.places) p.1 in
    let r = and_parts (a.part == b.part) (same_places a.places b.places) q.1 in
    alike a b (same_result_is a.carried b.carried p.0) (same_places_are a.places b.places r.1) (eqb-true a.kind b.kind q.0) (eqb-true a.part b.part r.0)
  where
    alike : (a b : Landing) → a.carried ≡ b.carried → a.places ≡ b.places → a.kind ≡ b.kind → a.part ≡ b.part → a ≡ b
    alike a b x y z w = λ i. record { carried = x i; places = y i; kind = z i; part = w i }

-- ---- a branch to a landing

-- the exit is behind the blocks of all
pub l_exit : (C : Ctx) (k : Nodes) (xs : List Landing) → branch (length xs) [] (l_labels C k xs) ≡ inside (label [] (exit_code C) 0 (returns C.result) ∷ [])
l_exit C k [] = refl
l_exit C k (x ∷ xs) = l_exit C (landing_code C (length xs) x) xs

-- the innermost of them
abbrev pub first_kind : List Landing → Kind
first_kind [] = leaves None
first_kind (x ∷ xs) = leaves x.carried

abbrev pub l_below : Ctx → List Landing → List Label
l_below C [] = label [] (exit_code C) 0 (returns C.result) ∷ []
l_below C (x ∷ xs) = l_labels C (landing_code C (length xs) x) xs

pub l_head : (C : Ctx) (k : Nodes) (xs : List Landing) → l_labels C k xs ≡ label [] k 0 (first_kind xs) ∷ l_below C xs
l_head C k [] = refl
l_head C k (x ∷ xs) = refl

-- it leads to the landing with these operands, from which the exit is still behind some blocks
pub record Lands (C : Ctx) (x : Landing) (vs : List Value) (w : Went) : Type 0 where
  pub outer : ℕ
  pub kind : Kind
  pub below : List Label
  pub comes : w ≡ inside (label (vs ++ []) (landing_code C outer x) 0 kind ∷ below)
  pub exits : (o : List Value) (c : Nodes) → branch outer [] (label o c 0 kind ∷ below) ≡ inside (label [] (exit_code C) 0 (returns C.result) ∷ [])

arrives_at : (C : Ctx) (y : Landing) (ys : List Landing) (ops vs : List Value) (k : Nodes) → top y.carried ops ≡ Some vs → Lands C y vs (branch 0 ops (label [] k 0 (leaves y.carried) ∷ l_labels C (landing_code C (length ys) y) ys))
arrives_at C y [] ops vs k t = record { outer = 0; kind = leaves None; below = label [] (exit_code C) 0 (returns C.result) ∷ []; comes = rw t refl; exits = λ o c. refl }
arrives_at C y (z ∷ zs) ops vs k t =
    record { outer = suc (length zs); kind = leaves z.carried; below = l_labels C (landing_code C (length zs) z) zs; comes = rw t refl; exits = λ o c. l_exit C (landing_code C (length zs) z) zs }

pub l_land : (C : Ctx) (k : Nodes) (xs : List Landing) (x : Landing) (n : ℕ) (ops vs : List Value) → number_of x xs ≡ Some n → top x.carried ops ≡ Some vs → Lands C x vs (branch n ops (l_labels C k xs))
l_land C k [] x n ops vs e t = absurd (cc)
l_land C k (y ∷ ys) x n ops vs e t = by_same (λ m is. l_land C (landing_code C (length ys) y) ys x m ops vs is t) (same_landing x y) refl e
  where
    beyond : ((m : ℕ) → number_of x ys ≡ Some m → Lands C x vs (branch m ops (l_labels C (landing_code C (length ys) y) ys))) → (q : Option ℕ) → number_of x ys ≡ q → option_map suc q ≡ Some n → Lands C x vs (branch n ops (l_labels C k (y ∷ ys)))
    beyond more None is e = absurd (cc)
    beyond more (Some m) is e =
        let z : suc m ≡ n = ap (λ o. unwrap_or o 0) e in
        subst (λ n. Lands C x vs (branch n ops (l_labels C k (y ∷ ys)))) z (more m is)

    by_same : ((m : ℕ) → number_of x ys ≡ Some m → Lands C x vs (branch m ops (l_labels C (landing_code C (length ys) y) ys))) → (b : Bool) → same_landing x y ≡ b → (if b then Some 0 else option_map suc (number_of x ys)) ≡ Some n → Lands C x vs (branch n ops (l_labels C k (y ∷ ys)))
    by_same more true s e =
        let z : 0 ≡ n = ap (λ o. unwrap_or o 0) e in
        let same : x ≡ y = same_landing_is x y s in
        subst (λ n. Lands C x vs (branch n ops (l_labels C k (y ∷ ys)))) z
        (subst (λ u. Lands C u vs (branch 0 ops (l_labels C k (y ∷ ys)))) (sym same) (arrives_at C y ys ops vs k (subst (λ u. top u.carried ops ≡ Some vs) same t)))
    by_same more false s e = beyond more (number_of x ys) refl e

-- out of all labels of the original
pub outer_branch : (C : Ctx) (l ex : List Value) (a : Option ValType) (o vs : List Value) (k : Nodes) (kd : Kind) (Ls : List Label) (ss : List (List Place)) (p : Kind → Kind) (m n : ℕ) → FitsLabels C l ex a Ls ss → m ≡ length Ls + n → branch (suc m) vs (label o k 0 (p kd) ∷ t_labels C (pending kd) Ls ss) ≡ branch n vs (l_labels C (jump 0 Return stop) C.landings)
outer_branch C l ex a o vs k kd [] [] p m n h e = let z : m ≡ n = omega (arith, e) in ap (λ z. branch z vs (l_labels C (jump 0 Return stop) C.landings)) z
outer_branch C l ex a o vs k kd [] (_ ∷ _) p m n h e = absurd h
outer_branch C l ex a o vs k kd (L ∷ Ls) [] p m n h e = absurd h
outer_branch C l ex a o vs k kd (L ∷ Ls) (e1 ∷ ss) p zero n h e = absurd (omega (arith, e))
outer_branch C l ex a o vs k kd (L ∷ Ls) (e1 ∷ ss) p (suc m) n h e =
    outer_branch C [] ex (awaits (pending L.kind)) (held (pending kd) L.operands) vs (code_at C (suc (length Ls)) (e1 ++ joined ss) (pending kd) L.nodes) L.kind Ls ss (t_kind C (length Ls) (joined ss)) m n h.4 (omega (arith, e))

-- a branch to the exit
pub exit_branch : (C : Ctx) (l ex : List Value) (a : Option ValType) (o : List Value) (k : Nodes) (L : Label) (Ls : List Label) (e : List Place) (ss : List (List Place)) → FitsLabels C l ex a (L ∷ Ls) (e ∷ ss) → branch (suc (length Ls) + length C.landings) [] (label o k 0 (t_kind C (length Ls) (joined ss) L.kind) ∷ t_labels C (pending L.kind) Ls ss) ≡ inside (label [] (exit_code C) 0 (returns C.result) ∷ [])
exit_branch C l ex a o k L Ls e ss h =
    let n : suc (length Ls) + length C.landings ≡ suc (length Ls + length C.landings) = omega arith in
    let Lx = label o k 0 (t_kind C (length Ls) (joined ss) L.kind) ∷ t_labels C (pending L.kind) Ls ss in
    ap (λ z. branch z [] Lx) n ∙ outer_branch C [] ex (awaits (pending L.kind)) o [] k L.kind Ls ss (t_kind C (length Ls) (joined ss)) (length Ls + length C.landings) (length C.landings) h.4 refl ∙ l_exit C (jump 0 Return stop) C.landings

-- a branch to a landing
pub land_branch : (C : Ctx) (l ex : List Value) (a : Option ValType) (o ops vs : List Value) (k : Nodes) (L : Label) (Ls : List Label) (e : List Place) (ss : List (List Place)) (x : Landing) (n : ℕ) → FitsLabels C l ex a (L ∷ Ls) (e ∷ ss) → number_of x C.landings ≡ Some n → top x.carried ops ≡ Some vs → Lands C x vs (branch (suc (length Ls) + n) ops (label o k 0 (t_kind C (length Ls) (joined ss) L.kind) ∷ t_labels C (pending L.kind) Ls ss))
land_branch C l ex a o ops vs k L Ls e ss x n h is t =
    let z : suc (length Ls) + n ≡ suc (length Ls + n) = omega arith in
    let Lx = label o k 0 (t_kind C (length Ls) (joined ss) L.kind) ∷ t_labels C (pending L.kind) Ls ss in
    subst (Lands C x vs) (sym (ap (λ z. branch z ops Lx) z ∙ outer_branch C [] ex (awaits (pending L.kind)) o ops k L.kind Ls ss (t_kind C (length Ls) (joined ss)) (length Ls + n) n h.4 refl)) (l_land C (jump 0 Return stop) C.landings x n ops vs is t)

-- ---- the added locals in front of a guard, whose offset is set where it has a landing

abbrev pub marked : Option ℕ → Ctx → ℕ → List Value → List Value
marked None C o ex = ex
marked (Some n) C o ex = slice_set ex (offset_at C) (values.I32 o)

pub types_marked : (q : Option ℕ) (C : Ctx) (o : ℕ) (ex : List Value) → types ex ≡ added C.slots → types (marked q C o ex) ≡ types ex
types_marked None C o ex room = refl
types_marked (Some n) C o ex room = types-slice_set ex (offset_at C) I32 (values.I32 o) (rw room (added_offset C.slots)) refl

pub fits_marked : (q : Option ℕ) (C : Ctx) (o : ℕ) (l ex : List Value) (a : Option ValType) (Ls : List Label) (ss : List (List Place)) → length (joined ss) ≤ C.slots → FitsLabels C l ex a Ls ss → FitsLabels C l (marked q C o ex) a Ls ss
fits_marked None C o l ex a Ls ss low h = h
fits_marked (Some n) C o l ex a Ls ss low h = fits_offset C l ex a Ls ss (values.I32 o) (omega (arith, low)) h

pub kind_marked : (q : Option ℕ) (C : Ctx) (o : ℕ) (ex : List Value) → slice_get (marked q C o ex) (kind_at C) ≡ slice_get ex (kind_at C)
kind_marked None C o ex = refl
kind_marked (Some n) C o ex = let ne : kind_at C ≢ offset_at C = omega arith in slice_get-put_other ex (kind_at C) (offset_at C) (values.I32 o) ne

module _ (M' : Engine) where
  pub br_if_down : {X : Shell} {tl s : List Value} {n : ℕ} {k : Nodes} {g : World} {co : List CollectorCall} → To M' 1 1 (st X tl (values.I32 0 ∷ s) (jump 0 (BrIf n) k) g co) (st X tl s k g co)
  br_if_down = one_step M' _ _ refl

  -- what stands in front of the test of a landing
  pub mark_to : (C : Ctx) (l : List Value) (size : length C.locals ≡ length l) {X : Shell} {s : List Value} {k : Nodes} {g : World} {co : List CollectorCall} (o : ℕ) (ex : List Value) → types ex ≡ added C.slots → To M' 2 2 (st X (l ++ ex) s (const (values.I32 o) (set C (offset_at C) k)) g co) (st X (l ++ slice_set ex (offset_at C) (values.I32 o)) s k g co)
  mark_to C l size o ex room = seq M' (push_to M' (values.I32 o)) (added_set M' C l size ex (offset_at C) I32 (values.I32 o) (rw room (added_offset C.slots)) refl)
