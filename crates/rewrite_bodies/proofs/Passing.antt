-- Operands that are taken before the frame can be handed over, and that are kept nowhere.
use Rattle.std.proofs.Common.{◌≡◌, ℕ, zero, suc, pred, ◌+◌, ◌≤◌, if◌then◌else◌, List, [], ◌∷◌, ◌++◌, length, Option, Some, None, Bool, true, false, refl, sym, subst, arith, slice_set, option_map, length-append, ◌≢◌, ◌∙◌}
use Rattle.std.proofs.lemmas.Bool.{and_parts}
use Rattle.wasm_syntax.specs.declared.value.ValType.{ValType}
use Rattle.wasm_syntax.specs.declared.value.Value.{Value}
use Rattle.wasm_syntax.specs.declared.value.Value.TheVariants as values
use Rattle.wasm_syntax.specs.declared.instruction.Basic.{Basic}
use Rattle.wasm_syntax.specs.Numbers.{type_of, types, same_type}
use Rattle.wasm_syntax.specs.Tree.{Nodes, stop, basic, jump, block, loop, choose}
use Rattle.wasm_syntax.specs.Host.{World}
use Rattle.wasm_syntax.specs.declared.host.CollectorCall.{CollectorCall}
use Rattle.wasm_syntax.specs.Effect.{takes}
use Rattle.wasm_syntax.specs.Machine.{Label, label, Engine, parts, cut, exactly}
use Rattle.wasm_syntax.proofs.Types.{same_type_is}
use Rattle.rewrite_bodies.specs.calls.Slots.{Place, place_type, Spilled, Ctx, slot, offset_at, added, less, grown, length_at, is_any, measured}
use Rattle.rewrite_bodies.specs.calls.Pieces.{keep}
use Rattle.rewrite_bodies.specs.calls.Guards.{can_trap}
use Rattle.rewrite_bodies.specs.calls.Rewrite.{any, at_once, or_behind, spare, passes}
use Rattle.rewrite_bodies.specs.calls.Facts.{needs, among}
use Rattle.rewrite_bodies.specs.calls.Agreement.{One, Holds, HoldsBut, awaits, pending, joined, FitsLabels, FitsOpen, FitsIn, Room, KindFits, HasLength, Runs}
use Rattle.rewrite_bodies.specs.calls.Steps.{To, Shell, st}
use Rattle.rewrite_bodies.proofs.Run.{stored, HasPlace, if_same, types-stored, Clear, clear_less, clear_offset, more_parts, still, weaken, kept_to, less_holds, holds_put, stored_other, slice_get-put_other, length_no_slot}
use Rattle.rewrite_bodies.proofs.Parts.{Match, place_of, match_of, fits_put, fits_stored, settle}
use Rattle.rewrite_bodies.proofs.Landed.{marked}

-- ---- which operands

-- where an instruction needs a guard, all are kept
pub needs_all : (C : Ctx) (o : ℕ) (i : Basic) (rest : Nodes) → needs C o i ≡ true → spare C (basic o i rest) ≡ 0
needs_all C o i rest n = rw n refl

at_once_spare : (C : Ctx) (nodes : Nodes) → at_once C nodes ≤ spare C nodes
at_once_spare C stop = omega arith
at_once_spare C (basic o i rest) = by_need (needs C o i) (takes i)
  where
    by_need : (b : Bool) (n : ℕ) → (if b then 0 else n) ≤ (if b then 0 else or_behind n (at_once C rest))
    by_need true n = omega arith
    by_need false zero = omega arith
    by_need false (suc n) = omega arith
at_once_spare C (jump o j rest) = omega arith
at_once_spare C (block o t inner end rest) = omega arith
at_once_spare C (loop o t inner end rest) = omega arith
at_once_spare C (choose o t a else_at b end rest) = omega arith

pred_least : (m n : ℕ) → m ≤ n → pred m ≤ pred n
pred_least zero n le = omega arith
pred_least (suc m) zero le = absurd (omega (arith, le))
pred_least (suc m) (suc n) le = omega (arith, le)

-- those that an instruction leaves under its result are spare behind it
pub spare_behind : (C : Ctx) (o : ℕ) (i : Basic) (rest : Nodes) → spare C (basic o i rest) ≤ takes i + pred (spare C rest)
spare_behind C o i rest = by_need (needs C o i) (takes i)
  where
    by_need : (b : Bool) (n : ℕ) → (if b then 0 else or_behind n (at_once C rest)) ≤ n + pred (spare C rest)
    by_need true n = omega arith
    by_need false zero = omega (arith, pred_least (at_once C rest) (spare C rest) (at_once_spare C rest))
    by_need false (suc n) = omega arith

-- and the function keeps the length of the memory
pub needs_measured : (C : Ctx) (o : ℕ) (i : Basic) → needs C o i ≡ true → measured C ≡ true
needs_measured C o i n = by_list C.exposed (and_parts (can_trap i) (among o C.exposed) n).1
  where
    by_list : (os : List ℕ) → among o os ≡ true → is_any os ≡ true
    by_list [] e = absurd (cc)
    by_list (p ∷ os) e = refl

-- ---- what holds of them

pub looser : (C : Ctx) (m n : ℕ) (l ex : List Value) (js es : List Place) (ops : List Value) → m ≤ n → HoldsBut C m l ex js ops es → HoldsBut C n l ex js ops es
looser C zero zero l ex js es ops le h = h
looser C (suc m) zero l ex js es ops le h = absurd (omega (arith, le))
looser C zero (suc n) l ex js [] [] le h = tt
looser C zero (suc n) l ex js [] (v ∷ ops) le h = absurd h
looser C zero (suc n) l ex js (e ∷ es) [] le h = absurd h
looser C zero (suc n) l ex js (e ∷ es) (v ∷ ops) le h = (place_of C l ex (length (es ++ js)) e v h.0, looser C zero n l ex js es ops (omega arith) h.1)
looser C (suc m) (suc n) l ex js [] [] le h = tt
looser C (suc m) (suc n) l ex js [] (v ∷ ops) le h = absurd h
looser C (suc m) (suc n) l ex js (e ∷ es) [] le h = absurd h
looser C (suc m) (suc n) l ex js (e ∷ es) (v ∷ ops) le h = (h.0, looser C m n l ex js es ops (omega (arith, le)) h.1)

pub loosened : (C : Ctx) (n : ℕ) (l ex : List Value) (js es : List Place) (ops : List Value) → Holds C l ex js ops es → HoldsBut C n l ex js ops es
loosened C n l ex js es ops h = looser C zero n l ex js es ops (omega arith) h

-- with one more that is kept
pub put_on : (C : Ctx) (m n : ℕ) (l ex : List Value) (js es : List Place) (ops : List Value) (e : Place) (v : Value) → m ≤ pred n → One C l ex (length (es ++ js)) e v → HoldsBut C m l ex js ops es → HoldsBut C n l ex js (v ∷ ops) (e ∷ es)
put_on C zero zero l ex js es ops e v le one h = (one, h)
put_on C (suc m) zero l ex js es ops e v le one h = absurd (omega (arith, le))
put_on C m (suc n) l ex js es ops e v le one h = (place_of C l ex (length (es ++ js)) e v one, looser C m n l ex js es ops le h)

-- or with one more that is spare
passed_on : (C : Ctx) (n : ℕ) (l ex : List Value) (js es : List Place) (ops : List Value) (e : Place) (v : Value) → any n ≡ true → type_of v ≡ place_type e → HoldsBut C (pred n) l ex js ops es → HoldsBut C n l ex js (v ∷ ops) (e ∷ es)
passed_on C zero l ex js es ops e v some d h = absurd (cc)
passed_on C (suc n) l ex js es ops e v some d h = (d, h)

-- a label that waited for nothing goes on
pub as_open : (C : Ctx) (l ex : List Value) (n : ℕ) (L : Label) (Ls : List Label) (e : List Place) (ss : List (List Place)) → HasLength C ex n → FitsLabels C l ex None (L ∷ Ls) (e ∷ ss) → FitsOpen C l ex (Runs n) (L ∷ Ls) (e ∷ ss)
as_open C l ex n L Ls e ss has h = (loosened C (spare C L.nodes) l ex (joined ss) e L.operands h.0, has, h.2, h.3, h.4)

-- all are kept where none is spare
pub kept_all : (C : Ctx) (l ex : List Value) (n : ℕ) (L : Label) (Ls : List Label) (e : List Place) (ss : List (List Place)) → spare C L.nodes ≡ 0 → FitsOpen C l ex (Runs n) (L ∷ Ls) (e ∷ ss) → FitsLabels C l ex None (L ∷ Ls) (e ∷ ss)
kept_all C l ex n L Ls e ss p h = (subst (λ q. HoldsBut C q l ex (joined ss) L.operands e) p h.0, tt, h.2, h.3, h.4)

-- the length of the memory is there
pub has_open : (C : Ctx) (l ex : List Value) (n : ℕ) (Ls : List Label) (ss : List (List Place)) → FitsOpen C l ex (Runs n) Ls ss → HasLength C ex n
has_open C l ex n [] ss h = absurd h
has_open C l ex n (L ∷ Ls) [] h = absurd h
has_open C l ex n (L ∷ Ls) (e ∷ ss) h = h.1

-- what is left of them when so many are taken
pub less_but : (C : Ctx) (n k : ℕ) (l ex : List Value) (m : ℕ) (js es : List Place) (ops vs below : List Value) → n ≤ m + k → HoldsBut C n l ex js ops es → cut m ops ≡ parts vs below → (es' : List Place) × (less m (es ++ js) ≡ es' ++ js) × HoldsBut C k l ex js below es'
less_but C zero k l ex m js es ops vs below le h c =
    let q = less_holds C l ex m js es ops vs below h c in
    (q.0, q.1, loosened C k l ex js q.0 below q.2)
less_but C (suc n) k l ex zero js es ops vs below le h c = let f : ops ≡ below = cc in (es, refl, rw f at (looser C (suc n) k l ex js es ops (omega (arith, le)) h))
less_but C (suc n) k l ex (suc m) js [] [] vs below le h c = absurd (cc)
less_but C (suc n) k l ex (suc m) js [] (v ∷ ops) vs below le h c = absurd h
less_but C (suc n) k l ex (suc m) js (e ∷ es) [] vs below le h c = absurd h
less_but C (suc n) k l ex (suc m) js (e ∷ es) (v ∷ ops) vs below le h c =
    let r = more_parts v (cut m ops) vs below c in
    less_but C n k l ex m js es ops r.0 below (omega (arith, le)) h.1 r.1

pub match_but : (C : Ctx) (n : ℕ) (l ex : List Value) (m : ℕ) (js es : List Place) (ops vs below : List Value) → HoldsBut C n l ex js ops es → cut m ops ≡ parts vs below → Match vs (es ++ js)
match_but C zero l ex m js es ops vs below h c = match_of C l ex m js es ops vs below h c
match_but C (suc n) l ex zero js es ops vs below h c = let f : vs ≡ [] = cc in rw f tt
match_but C (suc n) l ex (suc m) js [] [] vs below h c = absurd (cc)
match_but C (suc n) l ex (suc m) js [] (v ∷ ops) vs below h c = absurd h
match_but C (suc n) l ex (suc m) js (e ∷ es) [] vs below h c = absurd h
match_but C (suc n) l ex (suc m) js (e ∷ es) (v ∷ ops) vs below h c =
    let r = more_parts v (cut m ops) vs below c in
    rw r.2 (h.0, match_but C n l ex m js es ops r.0 below h.1 r.1)

-- ---- under a write outside of their slots

pub but_put : (C : Ctx) (n : ℕ) (l ex : List Value) (js es : List Place) (ops : List Value) (i : ℕ) (w : Value) → Clear C (length (es ++ js)) i → HoldsBut C n l ex js ops es → HoldsBut C n l (slice_set ex i w) js ops es
but_put C zero l ex js es ops i w clear h = holds_put C l ex js es ops i w clear h
but_put C (suc n) l ex js [] [] i w clear h = tt
but_put C (suc n) l ex js [] (v ∷ ops) i w clear h = absurd h
but_put C (suc n) l ex js (e ∷ es) [] i w clear h = absurd h
but_put C (suc n) l ex js (e ∷ es) (v ∷ ops) i w clear h =
    let high = length (es ++ js) in
    (h.0, but_put C n l ex js es ops i w (clear_less C high (suc high) i (omega arith) clear) h.1)

-- and of the length
pub open_put : (C : Ctx) (l ex : List Value) (n : ℕ) (L : Label) (Ls : List Label) (e : List Place) (ss : List (List Place)) (i : ℕ) (w : Value) → Clear C (length (e ++ joined ss)) i → length_at C ≢ i → FitsOpen C l ex (Runs n) (L ∷ Ls) (e ∷ ss) → FitsOpen C l (slice_set ex i w) (Runs n) (L ∷ Ls) (e ∷ ss)
open_put C l ex n L Ls e ss i w clear ne h =
    let inner = clear_less C (length (joined ss)) (length (e ++ joined ss)) i (omega (arith, length-append e (joined ss))) clear in
    (but_put C (spare C L.nodes) l ex (joined ss) e L.operands i w clear h.0, (λ q. slice_get-put_other ex (length_at C) i w ne ∙ h.1 q), h.2, h.3, fits_put C [] ex (awaits (pending L.kind)) Ls ss i w inner h.4)

-- in front of a guard
pub open_marked : (q : Option ℕ) (C : Ctx) (o : ℕ) (l ex : List Value) (n : ℕ) (L : Label) (Ls : List Label) (e : List Place) (ss : List (List Place)) → length (e ++ joined ss) ≤ C.slots → FitsOpen C l ex (Runs n) (L ∷ Ls) (e ∷ ss) → FitsOpen C l (marked q C o ex) (Runs n) (L ∷ Ls) (e ∷ ss)
open_marked None C o l ex n L Ls e ss low h = h
open_marked (Some m) C o l ex n L Ls e ss low h =
    let ne : length_at C ≢ offset_at C = omega arith in
    open_put C l ex n L Ls e ss (offset_at C) (values.I32 o) (clear_offset C (length (e ++ joined ss)) (omega (arith, low))) ne h

-- ---- results that are kept, or pass

abbrev pub stored_unless : Bool → Option ValType → (ValType → ℕ) → List Value → List Value → List Value
stored_unless true r i vs ex = ex
stored_unless false r i vs ex = stored r i vs ex

pub types_unless : (p : Bool) (r : Option ValType) (i : ValType → ℕ) (vs ex : List Value) → HasPlace r i ex → exactly r vs ≡ Some vs → types (stored_unless p r i vs ex) ≡ types ex
types_unless true r i vs ex h e = refl
types_unless false r i vs ex h e = types-stored r i vs ex h e

pub fits_unless : (p : Bool) (C : Ctx) (l ex : List Value) (a r : Option ValType) (Ls : List Label) (ss : List (List Place)) (i : ValType → ℕ) (vs : List Value) → ((t : ValType) → Clear C (length (joined ss)) (i t)) → FitsLabels C l ex a Ls ss → FitsLabels C l (stored_unless p r i vs ex) a Ls ss
fits_unless true C l ex a r Ls ss i vs clear h = h
fits_unless false C l ex a r Ls ss i vs clear h = fits_stored C l ex a r Ls ss i vs clear h

-- the length stays
pub has_unless : (p : Bool) (C : Ctx) (ex : List Value) (n : ℕ) (r : Option ValType) (es : List Place) (vs : List Value) → FitsIn C r es → HasLength C ex n → HasLength C (stored_unless p r (λ t. slot C.slots t (length es)) vs ex) n
has_unless true C ex n r es vs fit has = has
has_unless false C ex n None es vs fit has = has
has_unless false C ex n (Some t) es vs fit has =
    λ q. stored_other (Some t) (λ t. slot C.slots t (length es)) vs ex (length_at C) (λ u. length_no_slot C (length es) u (omega (arith, fit))) ∙ has q

-- a label that waits for this result, whose topmost operands need not be kept
abbrev pub FitsBut : Ctx → ℕ → List Value → List Value → Option ValType → Label → List Label → List Place → List (List Place) → Type 0
FitsBut C n l ex a L Ls e ss =
    HoldsBut C n l ex (joined ss) L.operands e × FitsIn C a (e ++ joined ss) × Room C (grown a (e ++ joined ss)) L.nodes × KindFits C (joined ss) L.kind Ls × FitsLabels C [] ex (awaits (pending L.kind)) Ls ss

none_spare : (n : ℕ) → any n ≡ false → pred n ≡ 0
none_spare zero e = refl
none_spare (suc n) e = absurd (cc)

pred_low : (n : ℕ) → pred n ≤ n
pred_low zero = omega arith
pred_low (suc n) = omega arith

-- awaited results have arrived, over operands of which some may be spare
pub arrived_over : (p : Bool) (C : Ctx) (l ex : List Value) (n : ℕ) (r : Option ValType) (L : Label) (Ls : List Label) (e : List Place) (ss : List (List Place)) (vs : List Value) → passes C L.nodes ≡ p → types ex ≡ added C.slots → exactly r vs ≡ Some vs → HasLength C ex n → FitsBut C (pred (spare C L.nodes)) l ex r L Ls e ss → FitsOpen C l (stored_unless p r (λ t. slot C.slots t (length (e ++ joined ss))) vs ex) (Runs n) (label (vs ++ L.operands) L.nodes L.end L.kind ∷ Ls) (grown r e ∷ ss)
arrived_over false C l ex n r L Ls e ss vs is ty x has h =
    let all : FitsLabels C l ex r (L ∷ Ls) (e ∷ ss) = subst (λ k. FitsBut C k l ex r L Ls e ss) (none_spare (spare C L.nodes) is) h in
    as_open C l (stored r (λ t. slot C.slots t (length (e ++ joined ss))) vs ex) n (label (vs ++ L.operands) L.nodes L.end L.kind) Ls (grown r e) ss
    (has_unless false C ex n r (e ++ joined ss) vs h.1 has) (settle C l ex r L Ls e ss vs ty x all)
arrived_over true C l ex n None L Ls e ss [] is ty x has h =
    let k = spare C L.nodes in (looser C (pred k) k l ex (joined ss) e L.operands (pred_low k) h.0, has, h.2, h.3, h.4)
arrived_over true C l ex n None L Ls e ss (_ ∷ _) is ty x has h = absurd (cc)
arrived_over true C l ex n (Some t) L Ls e ss [] is ty x has h = absurd (cc)
arrived_over true C l ex n (Some t) L Ls e ss (v ∷ []) is ty x has h =
    let d : type_of v ≡ t = same_type_is (type_of v) t (if_same (same_type (type_of v) t) (v ∷ []) (v ∷ []) x).0 in
    (passed_on C (spare C L.nodes) l ex (joined ss) e L.operands (Spilled t) v is d h.0, has, h.2, h.3, h.4)
arrived_over true C l ex n (Some t) L Ls e ss (v ∷ w ∷ vs) is ty x has h = absurd (cc)

-- over operands that are kept
pub arrived : (p : Bool) (C : Ctx) (l ex : List Value) (n : ℕ) (r : Option ValType) (L : Label) (Ls : List Label) (e : List Place) (ss : List (List Place)) (vs : List Value) → passes C L.nodes ≡ p → types ex ≡ added C.slots → exactly r vs ≡ Some vs → HasLength C ex n → FitsLabels C l ex r (L ∷ Ls) (e ∷ ss) → FitsOpen C l (stored_unless p r (λ t. slot C.slots t (length (e ++ joined ss))) vs ex) (Runs n) (label (vs ++ L.operands) L.nodes L.end L.kind ∷ Ls) (grown r e ∷ ss)
arrived p C l ex n r L Ls e ss vs is ty x has h = arrived_over p C l ex n r L Ls e ss vs is ty x has (loosened C (pred (spare C L.nodes)) l ex (joined ss) e L.operands h.0, h.1, h.2, h.3, h.4)

module _ (M : Engine) (C : Ctx) (l : List Value) (size : length C.locals ≡ length l) where
  pub kept_unless : (p : Bool) {X : Shell} {g : World} {co : List CollectorCall} (ex : List Value) (r : Option ValType) (es : List Place) (vs s : List Value) (k : Nodes) → HasPlace r (λ t. slot C.slots t (length es)) ex → exactly r vs ≡ Some vs → To M 0 1 (st X (l ++ ex) (vs ++ s) (keep p C (option_map Spilled r) es k) g co) (st X (l ++ stored_unless p r (λ t. slot C.slots t (length es)) vs ex) (vs ++ s) k g co)
  kept_unless true ex None es vs s k h e = weaken M (still M _) (omega arith) (omega arith)
  kept_unless true ex (Some t) es vs s k h e = weaken M (still M _) (omega arith) (omega arith)
  kept_unless false ex r es vs s k h e = kept_to M C l size ex r es vs s k h e
